-- What an evaluation makes of a table at one pair of an arena.
use Rattle.std.specs.Prelude.{ℕ, ◌≡◌, List}
use Rattle.spectro_spec.specs.System.{System}
use Rattle.spectro_spec.specs.Weighing.{Weighing}
use Rattle.spectro_spec.specs.Price.{Price}
use Rattle.spectro_game.specs.Pairs.{Pair}
use Rattle.spectro_game.specs.Reached.{StandsAt}
use Rattle.spectro_game.specs.Generations.{backward_step}
use Rattle.spectro_game.specs.Rows.{listed_at}
use Rattle.spectro_pairs.specs.Explored.{Explored}
use Rattle.spectro_pairs.specs.Arenas.{FromEach}

-- said of pair k, for each system and each weighing from which the arena was explored
abbrev pub AtPair : Explored → ℕ → (System → Weighing → Pair → Type 0) → Type 0
AtPair explored k Holds = FromEach explored (λ system weighing. (x : Pair) → StandsAt explored.pairs k x → Holds system weighing x)

-- the list is that of the backward step over the rows at pair k
abbrev pub IsEvaluated : Explored → List (List Price) → ℕ → List Price → Type 0
IsEvaluated explored rows k list = AtPair explored k
    (λ system weighing x. list ≡ backward_step weighing system (listed_at explored.pairs rows) x.state x.set)
