use Rattle.std.proofs.Common.{◌≡◌, false, drop}
use Rattle.spectro_io.specs.ClosingQuotes.{closing_from}
use Rattle.spectro_io.proofs.quoted.closing.Given as goal

abbrev pub invariant-loop-i : goal.invariant-loop-i
invariant-loop-i l = closing_from 0 false l.bytes ≡ closing_from l.i l.backslash (drop l.i l.bytes)
