use Rattle.std.proofs.Common.{take}
use Rattle.spectro_solve.specs.Added.{AreChosen, CanBeConjoined, IsCoveredByBoth}
use Rattle.spectro_solve.proofs.pulls.choose_both.Given as goal

abbrev pub invariant-loop-k : goal.invariant-loop-k
invariant-loop-k l =
    AreChosen (IsCoveredByBoth (take l.k l.left) l.right) l.made l.fn.chosen l.chosen
    × (CanBeConjoined l.fn.chosen → CanBeConjoined l.chosen)
