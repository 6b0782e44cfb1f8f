use Rattle.std.proofs.Common.{take}
use Rattle.spectro_solve.specs.Added.{IsAdded, IsJoinedBy}
use Rattle.spectro_solve.proofs.pulls.add_joined.Given as goal

abbrev pub invariant-loop-k : goal.invariant-loop-k
invariant-loop-k l = IsAdded (IsJoinedBy (take l.k l.chosen) l.from) l.fn.made l.made
