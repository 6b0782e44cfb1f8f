use Rattle.std.proofs.Common.{ℕ, ◌≡◌, ◌⊎◌, length, take}
use Rattle.std.specs.Prelude.{◌↔◌}
use Rattle.spectro_pairs.specs.Arenas.{FromEach}
use Rattle.spectro_solve.specs.Changes.{PrecedesSome}
use Rattle.spectro_solve.specs.Marks.{IsMarked}
use Rattle.spectro_solve.proofs.generations.mark_predecessors.Given as goal

abbrev pub invariant-loop-change : goal.invariant-loop-change
invariant-loop-change l =
    (length l.marks ≡ length l.fn.marks)
    × FromEach l.arena (λ system weighing. (k : ℕ)
    → IsMarked l.marks k ↔ IsMarked l.fn.marks k ⊎ PrecedesSome system l.arena.pairs (take l.change-index l.changes) k)
