use Rattle.std.proofs.Common.{ℕ, ◌<◌}
use Rattle.spectro_game.specs.Rows.{listed_at}
use Rattle.spectro_rows.specs.Rows.{row_at}
use Rattle.spectro_solve.specs.Added.{CanBeConjoined}
use Rattle.spectro_solve.specs.Clauses.{AreClauseLists}
use Rattle.spectro_solve.specs.Evaluations.{AtPair}
use Rattle.spectro_solve.proofs.splits.list_clauses.Given as goal

abbrev pub invariant-loop-i : goal.invariant-loop-i
invariant-loop-i l =
    AtPair l.arena l.k (λ system weighing x. AreClauseLists (listed_at l.arena.pairs l.lists) x l.i l.clauses)
    × ((j : ℕ) → j < l.i → CanBeConjoined (row_at l.clauses j))
