use Rattle.std.proofs.Common.{◌≡◌, ℕ, ◌<◌, None}
use Rattle.spectro_energy.specs.Energy.{price_of}
use Rattle.spectro_game.specs.Divisions.{Division, divisions}
use Rattle.spectro_game.specs.Reached.{StandsAt}
use Rattle.spectro_game.specs.Rows.{listed_at}
use Rattle.spectro_solve.specs.Evaluations.{AtPair}
use Rattle.spectro_build.specs.Choices.{split_choice}
use Rattle.spectro_build.proofs.splitting.first_split.Given as goal

-- no smaller mask makes a split
abbrev pub invariant-loop-mask : goal.invariant-loop-mask
invariant-loop-mask l = AtPair l.arena l.k (λ system weighing x. (m : ℕ) (d : Division) → m < l.mask → StandsAt (divisions x.set) m d
    → split_choice (listed_at l.arena.pairs l.table.rows) x.state (price_of l.e.parts) d ≡ None)
