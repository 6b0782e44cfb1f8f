use Rattle.std.proofs.Common.{◌≡◌, ℕ, ◌<◌, None}
use Rattle.spectro_energy.specs.Energy.{price_of}
use Rattle.spectro_game.specs.Reached.{StandsAt}
use Rattle.spectro_game.specs.Rows.{listed_at}
use Rattle.spectro_solve.specs.Evaluations.{AtPair}
use Rattle.spectro_build.specs.Choices.{Observation, observations_of, observation_choice}
use Rattle.spectro_build.proofs.observing.first_observation.Given as goal

-- no earlier observation fits
abbrev pub invariant-loop-i : goal.invariant-loop-i
invariant-loop-i l = AtPair l.arena l.k (λ system weighing x. (j : ℕ) (o : Observation) → j < l.i → StandsAt (observations_of system x) j o
    → observation_choice weighing (listed_at l.arena.pairs l.table.rows) (price_of l.e.parts) o ≡ None)
