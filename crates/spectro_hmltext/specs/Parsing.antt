-- What is answered for the text of a formula.
use Rattle.std.specs.Prelude.{ℕ, ◌≡◌, ◌+◌, ◌≤◌, List, length}
use Rattle.spectro_spec.specs.Formula.{Formula}
use Rattle.spectro_hml.specs.Sheets.{SheetNode, unfolded}
use Rattle.spectro_hmltext.specs.FormulaTexts.{IsFormulaText}
use Rattle.spectro_hmltext.specs.Numbering.{nodes_of}
use Rattle.spectro_hmltext.specs.declared.parser.TheConstants.{MAX_TEXT_BYTES}

-- the text is one of a formula, the nodes are those of the formula, and the top is the last of them, which unfolds to it
pub record IsParsed (text : List ℕ) (nodes : List SheetNode) (top : ℕ) : Type 0 where
  pub formula : Formula
  pub is_text : IsFormulaText text formula
  pub whole : nodes ≡ nodes_of 0 formula
  pub last : top + 1 ≡ length nodes
  pub unfolds : unfolded nodes top ≡ formula
  pub few : length nodes ≤ MAX_TEXT_BYTES
