-- One line of a weight text: a number, and a label in quotes; and what it gives behind others.
use Rattle.std.specs.Prelude.{ℕ, ◌≡◌, ◌<◌, ◌≤◌, true, false, List, [], ◌∷◌, ◌++◌, length}
use Rattle.spectro_io.specs.Blanks.{AreBlanks}
use Rattle.spectro_io.specs.Numbers.{is_number, number_value}
use Rattle.spectro_io.specs.QuotedLabels.{is_closed_behind, IsQuoted}
use Rattle.spectro_spec.specs.Weighing.{Weight, Weighing}
use Rattle.spectro_weights.specs.Setting.{is_set}
use Rattle.spectro_weights.specs.declared.weights.TheConstants.{MAX_LABELS}

-- digits, one or more blanks, and this between two quotes, of which the second is the next that no backslash takes with it; blanks may stand at both ends
pub record IsWeightLine (line digits inside : List ℕ) : Type 0 where
  pub front : List ℕ
  pub gap : List ℕ
  pub back : List ℕ
  pub whole : line ≡ front ++ digits ++ gap ++ 34 ∷ inside ++ 34 ∷ back
  pub blanks_before : AreBlanks front
  pub number : is_number digits ≡ true
  pub blanks_between : AreBlanks gap
  pub apart : 0 < length gap
  pub closed : is_closed_behind false inside ≡ true
  pub blanks_behind : AreBlanks back

-- the line has the label, and before it the number that it weighs, which is at most 255
pub record IsEntryLine (line : List ℕ) (entry : Weight) : Type 0 where
  pub digits : List ℕ
  pub inside : List ℕ
  pub form : IsWeightLine line digits inside
  pub label : IsQuoted inside entry.label
  pub weight : entry.weight ≡ number_value digits
  pub light : entry.weight ≤ 255

-- the label is new, and there is room for one more
pub record HasPlace (weighing : Weighing) (entry : Weight) : Type 0 where
  pub new : is_set weighing entry.label ≡ false
  pub room : length weighing < MAX_LABELS

-- what the lines so far have given, and the line after them, are this together
pub record Gives (weighing : Weighing) (line : List ℕ) (next : Weighing) : Type 0 where
  pub entry : Weight
  pub is_entry : IsEntryLine line entry
  pub place : HasPlace weighing entry
  pub list : next ≡ weighing ++ entry ∷ []
