use Rattle.spectro_solve.specs.Evaluations.{AtPair}
use Rattle.spectro_solve.specs.Fresh.{HasStaleSwaps}
use Rattle.spectro_solve.proofs.fresh.are_swaps_stale.Given as goal

abbrev pub invariant-loop-i : goal.invariant-loop-i
invariant-loop-i l = AtPair l.arena l.k (λ system weighing x. HasStaleSwaps l.arena.pairs l.fresh x l.i)
