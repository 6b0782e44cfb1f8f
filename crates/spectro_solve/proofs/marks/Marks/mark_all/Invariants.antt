use Rattle.std.proofs.Common.{ℕ, ◌≡◌, ◌⊎◌, length, take, Contains}
use Rattle.std.specs.Prelude.{◌↔◌}
use Rattle.spectro_solve.specs.Marks.{IsMarked}
use Rattle.spectro_solve.proofs.marks.Marks.mark_all.Given as goal

abbrev pub invariant-loop-k : goal.invariant-loop-k
invariant-loop-k l =
    (length l.self ≡ length l.fn.self)
    × ((j : ℕ) → IsMarked l.self j ↔ IsMarked l.fn.self j ⊎ Contains (take l.k-index l.pairs) j)
