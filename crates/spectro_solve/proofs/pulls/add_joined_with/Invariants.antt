use Rattle.std.proofs.Common.{take}
use Rattle.spectro_energy.specs.Energy.{price_of}
use Rattle.spectro_solve.specs.Added.{IsAdded, IsJoinedWith}
use Rattle.spectro_solve.proofs.pulls.add_joined_with.Given as goal

abbrev pub invariant-loop-k : goal.invariant-loop-k
invariant-loop-k l = IsAdded (IsJoinedWith (price_of l.e.parts) (take l.k l.from)) l.fn.made l.made
