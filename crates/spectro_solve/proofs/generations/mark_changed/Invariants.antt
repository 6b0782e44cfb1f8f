use Rattle.std.proofs.Common.{ℕ, ◌≡◌, ◌⊎◌, length, take}
use Rattle.std.specs.Prelude.{◌↔◌}
use Rattle.spectro_solve.specs.Changes.{HasChange}
use Rattle.spectro_solve.specs.Marks.{IsMarked}
use Rattle.spectro_solve.proofs.generations.mark_changed.Given as goal

abbrev pub invariant-loop-change : goal.invariant-loop-change
invariant-loop-change l =
    (length l.fresh ≡ length l.fn.fresh)
    × ((k : ℕ) → IsMarked l.fresh k ↔ IsMarked l.fn.fresh k ⊎ HasChange (take l.change-index l.changes) k)
