-- The text that is printed of a formula: no blanks, but one space behind `not`.
use Rattle.std.specs.Prelude.{ℕ, ◌≡◌, ◌+◌, ◌<◌, ◌≤◌, max, List, [], ◌∷◌, ◌++◌, length, codes}
use Rattle.spectro_spec.specs.System.{Label, IsLabel}
use Rattle.spectro_spec.specs.Formula.{Formula, Clauses, see, all, no_clauses, plus, minus}
use Rattle.spectro_io.specs.QuotedLabels.{escaped}
use Rattle.spectro_hmltext.specs.declared.printer.Printed.{Printed}
use Rattle.spectro_hmltext.specs.declared.printer.Printed.TheVariants.{Text, TooLong}

-- the label in quotes, with its escapes
abbrev pub label_text : Label → List ℕ
label_text label = 34 ∷ escaped label ++ 34 ∷ []

abbrev mutual
  pub formula_text : Formula → List ℕ
  formula_text (see label formula) = codes "<" ++ label_text label ++ codes ">" ++ formula_text formula
  formula_text (all no_clauses) = codes "tt"
  formula_text (all (plus formula clauses)) = codes "and{" ++ formula_text formula ++ clauses_text clauses
  formula_text (all (minus formula clauses)) = codes "and{not " ++ formula_text formula ++ clauses_text clauses

  -- the clauses behind the first, and the brace behind the last
  pub clauses_text : Clauses → List ℕ
  clauses_text no_clauses = codes "}"
  clauses_text (plus formula clauses) = codes "," ++ formula_text formula ++ clauses_text clauses
  clauses_text (minus formula clauses) = codes ",not " ++ formula_text formula ++ clauses_text clauses

abbrev mutual
  -- how deep formulas stand in one another
  pub nesting_of : Formula → ℕ
  nesting_of (see label formula) = nesting_of formula + 1
  nesting_of (all clauses) = nesting_of_clauses clauses + 1

  pub nesting_of_clauses : Clauses → ℕ
  nesting_of_clauses no_clauses = 0
  nesting_of_clauses (plus formula clauses) = max (nesting_of formula) (nesting_of_clauses clauses)
  nesting_of_clauses (minus formula clauses) = max (nesting_of formula) (nesting_of_clauses clauses)

abbrev mutual
  -- each label of the formula is one that a text may have
  pub HasLabels : Formula → Type 0
  HasLabels (see label formula) = IsLabel label × HasLabels formula
  HasLabels (all clauses) = HaveLabels clauses

  pub HaveLabels : Clauses → Type 0
  HaveLabels no_clauses = Unit {0}
  HaveLabels (plus formula clauses) = HasLabels formula × HaveLabels clauses
  HaveLabels (minus formula clauses) = HasLabels formula × HaveLabels clauses

-- the text of the formula, where it has at most so many bytes
abbrev pub IsPrinted : Formula → ℕ → Printed → Type 0
IsPrinted formula most (Text text) = (text ≡ formula_text formula) × (length (formula_text formula) ≤ most)
IsPrinted formula most TooLong = most < length (formula_text formula)
