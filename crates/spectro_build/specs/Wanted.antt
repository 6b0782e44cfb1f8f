-- The prices for which formulas are wanted, and the systems and tables that they are wanted of.
use Rattle.std.specs.Prelude.{ℕ, ◌≡◌, ◌<◌, List, [], map, All, Contains, length, slice_index_or}
use Rattle.spectro_spec.specs.System.{System}
use Rattle.spectro_spec.specs.Weighing.{Weighing}
use Rattle.spectro_spec.specs.Price.{Price}
use Rattle.spectro_game.specs.Pairs.{Pair}
use Rattle.spectro_game.specs.Rows.{IsSolved}
use Rattle.spectro_theory.specs.LawsOfGenerations.{ArePartsUpTo}
use Rattle.spectro_energy.specs.Energy.{price_of}
use Rattle.spectro_rows.specs.Rows.{row_at}
use Rattle.spectro_pairs.specs.Explored.{Explored, IsExploredFrom}
use Rattle.spectro_pairs.specs.Arenas.{FromEach}
use Rattle.spectro_build.specs.Choices.{Need}
use Rattle.spectro_build.specs.declared.wanted.Wanted.{Wanted}

-- said of each weighing with which the arena was explored from the system
abbrev pub FromEachWeighing : System → Explored → (Weighing → Type 0) → Type 0
FromEachWeighing system explored Holds = (weighing : Weighing) (starts : List (ℕ × ℕ)) → IsExploredFrom system weighing starts explored → Holds weighing

-- each pair of the arena has the row of its least prices, none of which has a part above the number of pairs
pub record IsSolvedFrom (explored : Explored) (rows : List (List Price)) : Type 0 where
  pub count : length rows ≡ length explored.pairs
  pub solved : FromEach explored (λ system weighing. IsSolved weighing system explored.pairs rows)
  pub parts : All (All (ArePartsUpTo (length explored.pairs))) rows

-- the pair of the number
abbrev pub pair_of : List Pair → ℕ → Pair
pair_of pairs k = slice_index_or pairs k (record { state = 0; set = [] })

-- the wanted pair, at the wanted price
abbrev pub need_of : List Pair → Wanted → Need
need_of pairs one = record { pair = pair_of pairs one.pair; price = price_of one.price.parts }

-- the wanted pairs and prices, in order
abbrev pub needs_of : List Pair → List Wanted → List Need
needs_of pairs wanted = map (need_of pairs) wanted

-- the number is one of a pair, and the price is in the row of that pair
pub record IsListedIn (rows : List (List Price)) (one : Wanted) : Type 0 where
  pub pair : one.pair < length rows
  pub price : Contains (row_at rows one.pair) (price_of one.price.parts)
