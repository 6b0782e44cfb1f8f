use Rattle.std.proofs.Common.{take}
use Rattle.spectro_solve.specs.Added.{IsAdded}
use Rattle.spectro_solve.specs.Fresh.{IsNegatedBy}
use Rattle.spectro_solve.proofs.fresh.add_negated.Given as goal

abbrev pub invariant-loop-k : goal.invariant-loop-k
invariant-loop-k l = IsAdded (IsNegatedBy (take l.k l.from)) l.fn.made l.made
