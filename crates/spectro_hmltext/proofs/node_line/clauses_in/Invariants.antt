use Rattle.std.proofs.Common.{length}
use Rattle.spectro_hmltext.proofs.NodeClauses.{HasReadClauses}
use Rattle.spectro_hmltext.proofs.node_line.clauses_in.Given as goal

abbrev pub invariant-loop-token : goal.invariant-loop-token
invariant-loop-token l = HasReadClauses l.text l.rest l.clauses.items

abbrev pub decreases-loop-token : goal.decreases-loop-token
decreases-loop-token l = length l.rest
