use Rattle.std.proofs.Common.{◌≡◌, ◌++◌, take}
use Rattle.spectro_report.specs.Firsts.{wanted_of}
use Rattle.spectro_report.proofs.found.ask.Given as goal

abbrev pub invariant-loop-first : goal.invariant-loop-first
invariant-loop-first l = l.wanted.items ≡ l.fn.wanted.items ++ wanted_of l.pair (take l.first-index l.firsts)
