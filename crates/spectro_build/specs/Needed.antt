-- What is needed for the wanted pairs and prices, and its order.
use Rattle.std.specs.Prelude.{ℕ, ◌≡◌, ◌↔◌, ◌+◌, Some, List, [], ◌∷◌, Contains}
use Rattle.std.specs.List.{position_or_len}
use Rattle.spectro_spec.specs.System.{System}
use Rattle.spectro_spec.specs.Weighing.{Weighing}
use Rattle.spectro_spec.specs.Price.{parts, IsFirstSmaller}
use Rattle.spectro_game.specs.Pairs.{Pair}
use Rattle.spectro_game.specs.Generations.{Table}
use Rattle.spectro_theory.specs.Reaching.{is_same_pair}
use Rattle.spectro_build.specs.Choices.{Need, Choice, choice_at, taken}

-- it is wanted, or the choice for something needed takes it
pub data IsNeeded (weighing : Weighing) (system : System) (table : Table) (wanted : List Need) : Need → Type 0 where
  as_wanted : (x : Need) → Contains wanted x → IsNeeded weighing system table wanted x
  as_taken : (x : Need) (choice : Choice) (y : Need) → IsNeeded weighing system table wanted x → choice_at weighing system table x ≡ Some choice
      → Contains (taken choice) y
      → IsNeeded weighing system table wanted y

-- these are just what is needed
abbrev pub AreNeeded : Weighing → System → Table → List Need → List Need → Type 0
AreNeeded weighing system table wanted needs = (x : Need) → Contains needs x ↔ IsNeeded weighing system table wanted x

-- what the choice takes for each of them is among them
abbrev pub AreClosed : Weighing → System → Table → List Need → Type 0
AreClosed weighing system table needs =
    (x : Need) (choice : Choice) (y : Need) → Contains needs x → choice_at weighing system table x ≡ Some choice → Contains (taken choice) y → Contains needs y

-- depth of observations and nesting of conjunctions together, which each choice makes less
abbrev pub height : Need → ℕ
height x = x.price.observations + x.price.conjunctions

-- the number of the pair is its place
abbrev pub number_of : List Pair → Pair → ℕ
number_of pairs x = position_or_len (is_same_pair x) pairs

-- the node of x stands before that of y: by height, then by the number of the pair, then by price
abbrev pub IsBuiltBefore : List Pair → Need → Need → Type 0
IsBuiltBefore pairs x y = IsFirstSmaller (height x ∷ number_of pairs x.pair ∷ parts x.price) (height y ∷ number_of pairs y.pair ∷ parts y.price)

-- each comes before all later ones
abbrev pub AreInOrder : List Pair → List Need → Type 0
AreInOrder pairs [] = Unit {0}
AreInOrder pairs (x ∷ xs) = ((y : Need) → Contains xs y → IsBuiltBefore pairs x y) × AreInOrder pairs xs
