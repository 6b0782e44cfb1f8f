use Rattle.spectro_build.proofs.Closings.{IsClosing}
use Rattle.spectro_build.proofs.needs.Needs.close.Given as goal

-- the choices for the first keys were taken
abbrev pub invariant-loop-i : goal.invariant-loop-i
invariant-loop-i l = IsClosing l.arena l.table.rows l.fn.self l.self l.i
