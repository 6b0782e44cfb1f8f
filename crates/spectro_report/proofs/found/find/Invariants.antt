use Rattle.std.proofs.Common.{take}
use Rattle.spectro_report.specs.Firsts.{AreFirsts, firsts_of}
use Rattle.spectro_report.proofs.found.find.Given as goal

abbrev pub invariant-loop-k : goal.invariant-loop-k
invariant-loop-k l = AreFirsts l.list (take l.k l.notions) (firsts_of l.firsts.items)
