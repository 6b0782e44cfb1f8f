use Rattle.spectro_solve.specs.Added.{IsAdded}
use Rattle.spectro_solve.specs.Evaluations.{AtPair}
use Rattle.spectro_solve.specs.Fresh.{AffordsFreshAmong}
use Rattle.spectro_solve.proofs.fresh.add_fresh_observations.Given as goal

abbrev pub invariant-loop-i : goal.invariant-loop-i
invariant-loop-i l = AtPair l.arena l.k (λ system weighing x. IsAdded (AffordsFreshAmong weighing system l.arena l.lists l.fresh x l.i) l.fn.made l.made)
