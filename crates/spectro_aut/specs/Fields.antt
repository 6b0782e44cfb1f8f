-- The fields between the parentheses of a line.
use Rattle.std.specs.Prelude.{ℕ, ◌≡◌, true, List, [], ◌∷◌, ◌++◌, Contains}
use Rattle.spectro_io.specs.Blanks.{trimmed}
use Rattle.spectro_io.specs.Numbers.{is_number, number_value}

-- blanks aside, the digits of the number, however many there are
pub record IsNumberField (text : List ℕ) (number : ℕ) : Type 0 where
  pub digits : is_number (trimmed text) ≡ true
  pub value : number ≡ number_value (trimmed text)

-- the label between two quotes, as it stands; or the label itself, which is not empty and has no quote
pub data IsLabelField (field label : List ℕ) : Type 0 where
  quoted : field ≡ 34 ∷ label ++ 34 ∷ [] → IsLabelField field label
  bare : label ≡ field → (field ≡ [] → ⊥) → (Contains field 34 → ⊥) → IsLabelField field label
