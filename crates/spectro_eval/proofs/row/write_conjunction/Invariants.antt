use Rattle.std.proofs.Common.{◌/◌, ◌<◌, ◌↔◌, ℕ, IsTrue, length, take}
use Rattle.std.specs.Prelude.{All}
use Rattle.spectro_eval.specs.Rows.{bit_of}
use Rattle.spectro_eval.proofs.Meets.{HasSign}
use Rattle.spectro_eval.proofs.row.write_conjunction.Given as goal

abbrev pub invariant-loop-clause : goal.invariant-loop-clause
invariant-loop-clause l = (state : ℕ) → state / 64 < length l.fn.row
    → IsTrue (bit_of l.row state) ↔ All (HasSign l.rows (length l.fn.row) state) (take l.clause-index l.clauses)
