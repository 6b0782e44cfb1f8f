use Rattle.std.proofs.Common.{ℕ, ◌≡◌, ◌+◌, ◌<◌, IsTrue, false, slice_index, slice_index_or}
use Rattle.std.specs.Prelude.{◌↔◌}
use Rattle.spectro_lanes.proofs.lanes.mark_eight.Given as goal

abbrev pub invariant-loop-i : goal.invariant-loop-i
invariant-loop-i l = ((i : ℕ) → i < l.i → IsTrue (slice_index_or l.marks (l.k + i) false) ↔ slice_index l.lanes i ≡ 1)
    × ((i : ℕ) → i < l.k → slice_index_or l.marks i false ≡ slice_index_or l.fn.marks i false)
