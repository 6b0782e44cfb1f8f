-- What the code finds in a line.
use Rattle.std.specs.Prelude.{ℕ, ◌≡◌, List, [], ◌∷◌, ◌++◌, string_bytes}
use Rattle.spectro_io.specs.Numbers.{number_value, capped}
use Rattle.spectro_spec.specs.Weighing.{Weight, Weighing}
use Rattle.spectro_weights.specs.WeightLines.{IsWeightLine, HasPlace}
use Rattle.spectro_weights.specs.declared.line.Entry.{Entry}
use Rattle.spectro_weights.specs.declared.line.Parts.{Parts}

-- the line has these digits before the label, and their value is the number, or the greatest of 64 bits where it is greater
pub record ArePartsOf (line : List ℕ) (parts : Parts) : Type 0 where
  pub digits : List ℕ
  pub form : IsWeightLine line digits parts.inside.now
  pub number : parts.number ≡ capped (number_value digits)

-- the entry, as it stands in a weighing
abbrev pub weight_in : Entry → Weight
weight_in entry = record { label = string_bytes entry.label; weight = entry.weight }

-- the entry was put behind the others, where it has its place
pub record IsPlaced (old : Weighing) (entry : Weight) (new : Weighing) : Type 0 where
  pub place : HasPlace old entry
  pub list : new ≡ old ++ entry ∷ []
