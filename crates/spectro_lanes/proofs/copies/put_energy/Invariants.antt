use Rattle.std.proofs.Common.{ℕ, ◌≡◌, ◌+◌, ◌*◌, ◌<◌, ◌≢◌, slice_index}
use Rattle.spectro_lanes.proofs.copies.put_energy.Given as goal

abbrev pub invariant-loop-part : goal.invariant-loop-part
invariant-loop-part l = ((j : ℕ) → j < l.part → slice_index l.numbers (j * l.stride + l.k) ≡ slice_index l.e.parts j)
    × ((j : ℕ) → j < 7 → (i : ℕ) → i < l.stride → i ≢ l.k → slice_index l.numbers (j * l.stride + i) ≡ slice_index l.fn.numbers (j * l.stride + i))
