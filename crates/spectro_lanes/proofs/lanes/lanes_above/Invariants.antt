use Rattle.std.proofs.Common.{◌≡◌, ◌↔◌, ℕ, ◌+◌, ◌*◌, ◌<◌, ◌≤◌, slice_index}
use Rattle.spectro_lanes.proofs.lanes.lanes_above.Given as goal

abbrev pub invariant-loop-part : goal.invariant-loop-part
invariant-loop-part l = (i : ℕ) → i < 8
    → slice_index l.kept i ≡ 1 ↔ ((j : ℕ) → j < l.part → slice_index l.e.parts j ≤ slice_index l.numbers (j * l.stride + (l.k + i)))
