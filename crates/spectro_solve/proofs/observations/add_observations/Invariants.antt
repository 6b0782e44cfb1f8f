use Rattle.spectro_game.specs.Rows.{listed_at}
use Rattle.spectro_solve.specs.Added.{IsAdded}
use Rattle.spectro_solve.specs.Evaluations.{AtPair}
use Rattle.spectro_solve.specs.Observations.{AffordsAmong}
use Rattle.spectro_solve.proofs.observations.add_observations.Given as goal

abbrev pub invariant-loop-i : goal.invariant-loop-i
invariant-loop-i l = AtPair l.arena l.k (λ system weighing x. IsAdded (AffordsAmong weighing system (listed_at l.arena.pairs l.lists) x l.i) l.fn.made l.made)
