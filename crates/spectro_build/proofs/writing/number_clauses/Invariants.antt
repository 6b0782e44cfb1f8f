use Rattle.spectro_build.proofs.NodeNumbers.{AreNamed}
use Rattle.spectro_build.proofs.writing.number_clauses.Given as goal

-- those of the first keys have their numbers
abbrev pub invariant-loop-clause : goal.invariant-loop-clause
invariant-loop-clause l = AreNamed l.needs l.signed l.clauses.items l.clause-index
