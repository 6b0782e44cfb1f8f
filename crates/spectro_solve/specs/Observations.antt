-- What the observations of a pair make of a table.
use Rattle.std.specs.Prelude.{ℕ, ◌<◌}
use Rattle.spectro_spec.specs.System.{Label, System, HasStep, post}
use Rattle.spectro_spec.specs.Weighing.{Weighing, weight_of}
use Rattle.spectro_spec.specs.Price.{Price}
use Rattle.spectro_game.specs.Update.{observe}
use Rattle.spectro_game.specs.Pairs.{Pair, observed}
use Rattle.spectro_game.specs.Reached.{StandsAt}
use Rattle.spectro_game.specs.Generations.{Table}
use Rattle.spectro_pairs.specs.Explored.{observed_labels}
use Rattle.spectro_solve.specs.Added.{IsMadeBy}

-- an observation makes of a price after a step one that is at most e
abbrev pub AffordsObservation : Weighing → System → Table → Pair → Price → Type 0
AffordsObservation weighing system table x e = (label : Label) × (t : ℕ) × HasStep system x.state label t
    × IsMadeBy (observe (weight_of weighing label)) (table t (post system x.set label)) e

-- one of the first n observations does
abbrev pub AffordsAmong : Weighing → System → Table → Pair → ℕ → Price → Type 0
AffordsAmong weighing system table x n e = (i : ℕ) × (i < n) × (y : Pair) × (label : Label) × StandsAt (observed system x) i y
    × StandsAt (observed_labels system x) i label × IsMadeBy (observe (weight_of weighing label)) (table y.state y.set) e
