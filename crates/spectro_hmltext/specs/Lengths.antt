-- How long the texts of a sheet's formulas are.
use Rattle.std.specs.Prelude.{ℕ, ◌≡◌, ◌+◌, ◌-◌, ◌^◌, ◌<◌, min, List, length, slice_index, if◌then◌else◌}
use Rattle.spectro_spec.specs.Formula.{Formula}
use Rattle.spectro_hml.specs.declared.node.Clause.{Clause}
use Rattle.spectro_hml.specs.Sheets.{SheetNode, unfolded}
use Rattle.spectro_hmltext.specs.Printed.{formula_text}

-- how many bytes the text of the formula has, but at most the greatest number of 64 bits
abbrev pub text_bytes : Formula → ℕ
text_bytes formula = min (length (formula_text formula)) (2 ^ 64 - 1)

-- these are the lengths for the first k nodes
pub record AreLengths (nodes : List SheetNode) (k : ℕ) (found : List ℕ) : Type 0 where
  pub count : length found ≡ k
  pub each : (j : ℕ) → j < k → slice_index found j ≡ text_bytes (unfolded nodes j)

-- what a clause takes in the text: a comma, `not ` where it is negative, and its formula
abbrev pub clause_bytes : List ℕ → Clause → ℕ
clause_bytes before clause = slice_index before clause.node + (if clause.positive then 1 else 5)
