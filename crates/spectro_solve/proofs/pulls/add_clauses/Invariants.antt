use Rattle.std.proofs.Common.{take}
use Rattle.spectro_energy.specs.Updates.{update_of}
use Rattle.spectro_solve.specs.Added.{AreOf, IsAdded, IsClauseBy, IsClauseOf}
use Rattle.spectro_solve.proofs.pulls.add_clauses.Given as goal

abbrev pub invariant-loop-k : goal.invariant-loop-k
invariant-loop-k l = IsAdded (IsClauseBy (update_of l.sign) (take l.k l.from)) l.fn.made l.made × AreOf (IsClauseOf (update_of l.sign) l.from) l.fn.made l.made
