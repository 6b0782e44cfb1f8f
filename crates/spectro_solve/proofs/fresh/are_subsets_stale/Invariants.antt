use Rattle.spectro_solve.specs.Evaluations.{AtPair}
use Rattle.spectro_solve.specs.Fresh.{HasStaleSubsets}
use Rattle.spectro_solve.proofs.fresh.are_subsets_stale.Given as goal

abbrev pub invariant-loop-mask : goal.invariant-loop-mask
invariant-loop-mask l = AtPair l.arena l.k (λ system weighing x. HasStaleSubsets l.arena.pairs l.fresh x l.mask)
