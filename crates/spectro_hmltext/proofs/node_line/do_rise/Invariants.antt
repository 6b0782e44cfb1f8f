use Rattle.std.proofs.Common.{length, ◌↔◌}
use Rattle.spectro_hml.specs.Clauses.{ClausesRise}
use Rattle.spectro_hmltext.proofs.node_line.do_rise.Given as goal

abbrev pub invariant-loop-rest : goal.invariant-loop-rest
invariant-loop-rest l = ClausesRise l.clauses ↔ ClausesRise l.rest

abbrev pub decreases-loop-rest : goal.decreases-loop-rest
decreases-loop-rest l = length l.rest
