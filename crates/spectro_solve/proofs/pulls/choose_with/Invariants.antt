use Rattle.std.proofs.Common.{take}
use Rattle.spectro_energy.specs.Energy.{price_of}
use Rattle.spectro_solve.specs.Added.{AreChosen, CanBeConjoined, IsCoveredWith}
use Rattle.spectro_solve.proofs.pulls.choose_with.Given as goal

abbrev pub invariant-loop-k : goal.invariant-loop-k
invariant-loop-k l =
    AreChosen (IsCoveredWith (price_of l.e.parts) (take l.k l.others)) l.made l.fn.chosen l.chosen
    × (CanBeConjoined l.fn.chosen → CanBeConjoined l.chosen)
