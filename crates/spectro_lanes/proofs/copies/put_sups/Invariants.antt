use Rattle.std.proofs.Common.{ℕ, ◌≡◌, ◌+◌, ◌*◌, ◌<◌, ◌≤◌, ◌⊎◌, slice_index, max}
use Rattle.spectro_lanes.proofs.copies.put_sups.Given as goal

abbrev pub invariant-loop-part : goal.invariant-loop-part
invariant-loop-part l = ((j : ℕ) → j < l.part → (i : ℕ) → i < l.n
    → slice_index l.to (j * l.stride + (l.at + i)) ≡ max (slice_index l.from (j * l.from_stride + i)) (slice_index l.e.parts j))
    × ((j : ℕ) → j < 7 → (i : ℕ) → i < l.stride → (i < l.at) ⊎ (l.at + l.n ≤ i) → slice_index l.to (j * l.stride + i) ≡ slice_index l.fn.to (j * l.stride + i))
