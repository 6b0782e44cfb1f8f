use Rattle.std.proofs.Common.{take}
use Rattle.spectro_energy.specs.Updates.{update_of}
use Rattle.spectro_solve.specs.Added.{IsAdded, IsMadeBy}
use Rattle.spectro_solve.proofs.pulls.add_pulled.Given as goal

abbrev pub invariant-loop-k : goal.invariant-loop-k
invariant-loop-k l = IsAdded (IsMadeBy (update_of l.update) (take l.k l.from)) l.fn.made l.made
