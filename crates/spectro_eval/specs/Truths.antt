-- Tables of truths, with a row for each node of a sheet.
use Rattle.std.specs.Prelude.{ℕ, ◌≡◌, ◌*◌, ◌<◌, Bool, List, [], drop, length, slice_index_or}
use Rattle.spectro_spec.specs.System.{System}
use Rattle.spectro_spec.specs.Formula.{Formula}
use Rattle.spectro_hml.specs.Sheets.{SheetNode, formula_at, unfolded}
use Rattle.spectro_eval.specs.StateTables.{AreTruths}
use Rattle.spectro_eval.specs.Rows.{words_of, bits_of}

-- there is a row for each node of the sheet, and it tells at which states the formula that the node unfolds to is true
pub record AreSheetTruths (system : System) (nodes : List SheetNode) (rows : List (List Bool)) : Type 0 where
  pub long : length rows ≡ length nodes
  pub truths : (node : ℕ) → node < length nodes → AreTruths system (unfolded nodes node) (slice_index_or rows node [])

-- the words are a row for each of the formulas, and it tells at which states the formula is true
pub record AreRows (system : System) (formulas : List Formula) (words : List ℕ) : Type 0 where
  pub long : length words ≡ length formulas * words_of system.states
  pub truths : (k : ℕ) → k < length formulas → AreTruths system (formula_at formulas k) (bits_of system.states (drop (k * words_of system.states) words))
