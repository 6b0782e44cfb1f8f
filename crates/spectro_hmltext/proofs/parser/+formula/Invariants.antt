use Rattle.std.proofs.Common.{◌+◌, ◌*◌, length}
use Rattle.spectro_hmltext.proofs.Parsings.{AreReadSoFar}
use Rattle.spectro_hmltext.proofs.parser.+formula.Given as goal

abbrev pub decreases-formula : goal.decreases-formula
decreases-formula l = 3 * length l.text.now

abbrev pub decreases-observation : goal.decreases-observation
decreases-observation l = 3 * length l.opened.now + 1

abbrev pub decreases-conjunction : goal.decreases-conjunction
decreases-conjunction l = 3 * length l.word.now + 1

abbrev pub decreases-clauses : goal.decreases-clauses
decreases-clauses l = 3 * length l.text.now + 2

abbrev pub decreases-clause : goal.decreases-clause
decreases-clause l = 3 * length l.text.now + 1

abbrev pub invariant-clauses-loop-clauses : goal.invariant-clauses-loop-clauses
invariant-clauses-loop-clauses l = AreReadSoFar l.nesting l.text l.initial.sheet l.sheet l.clauses.items l.rest

abbrev pub decreases-clauses-loop-clauses : goal.decreases-clauses-loop-clauses
decreases-clauses-loop-clauses l = length l.rest
