-- Tables as rows: one list for each of the pairs, in their order.
use Rattle.std.specs.Prelude.{ℕ, ◌==◌, ◌&&◌, List, [], ◌∷◌, map, if◌then◌else◌}
use Rattle.std.specs.Str.{bytes_eq}
use Rattle.spectro_spec.specs.System.{System}
use Rattle.spectro_spec.specs.Weighing.{Weighing}
use Rattle.spectro_spec.specs.Price.{Price}
use Rattle.spectro_spec.specs.LeastPrices.{AreLeastPrices}
use Rattle.spectro_game.specs.Pairs.{Pair, IsOneOf}
use Rattle.spectro_game.specs.Generations.{Table, backward_step, generation}

-- the row of the first pair that has the state and the set, and nothing where none has
unfoldable pub listed_at : List Pair → List (List Price) → Table
listed_at [] rows p qs = []
listed_at (x ∷ xs) [] p qs = []
listed_at (x ∷ xs) (es ∷ rows) p qs = if (x.state == p) && bytes_eq x.set qs then es else listed_at xs rows p qs

-- the backward step at each of the pairs
unfoldable pub next_rows : Weighing → System → List Pair → List (List Price) → List (List Price)
next_rows weighing system pairs rows = map (λ (x : Pair). backward_step weighing system (listed_at pairs rows) x.state x.set) pairs

-- the generation at each of the pairs
unfoldable pub generation_rows : Weighing → System → List Pair → ℕ → List (List Price)
generation_rows weighing system pairs k = map (λ (x : Pair). generation weighing system k x.state x.set) pairs

-- each of the pairs has the list of its least prices
abbrev pub IsSolved : Weighing → System → List Pair → List (List Price) → Type 0
IsSolved weighing system pairs rows = (p : ℕ) (qs : List ℕ) → IsOneOf pairs p qs → AreLeastPrices weighing system p qs (listed_at pairs rows p qs)
