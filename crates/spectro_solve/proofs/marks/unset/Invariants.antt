use Rattle.std.proofs.Common.{ℕ, ◌≡◌, length, take, Contains}
use Rattle.spectro_solve.specs.Marks.{IsMarked}
use Rattle.spectro_solve.proofs.marks.unset.Given as goal

abbrev pub invariant-loop-k : goal.invariant-loop-k
invariant-loop-k l =
    (length l.flags ≡ length l.fn.flags)
    × ((j : ℕ) → IsMarked l.flags j → IsMarked l.fn.flags j × (¬ Contains (take l.k-index l.numbers) j))
