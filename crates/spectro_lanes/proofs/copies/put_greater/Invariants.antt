use Rattle.std.proofs.Common.{ℕ, ◌≡◌, ◌+◌, ◌-◌, ◌<◌, ◌≤◌, ◌⊎◌, slice_index, max}
use Rattle.spectro_lanes.proofs.copies.put_greater.Given as goal

abbrev pub invariant-loop-k : goal.invariant-loop-k
invariant-loop-k l = (l.k ≤ l.n) × ((i : ℕ) → i < l.k → slice_index l.to (l.place + i) ≡ max (slice_index l.from (l.at + i)) l.bound)
    × ((p : ℕ) → (p < l.place) ⊎ (l.place + l.n ≤ p) → slice_index l.to p ≡ slice_index l.fn.to p)

abbrev pub decreases-loop-k : goal.decreases-loop-k
decreases-loop-k l = l.n - l.k

abbrev pub invariant-loop-k-2 : goal.invariant-loop-k-2
invariant-loop-k-2 l = (l.k ≤ l.n) × ((i : ℕ) → i < l.k → slice_index l.to (l.place + i) ≡ max (slice_index l.from (l.at + i)) l.bound)
    × ((p : ℕ) → (p < l.place) ⊎ (l.place + l.n ≤ p) → slice_index l.to p ≡ slice_index l.fn.to p)

abbrev pub decreases-loop-k-2 : goal.decreases-loop-k-2
decreases-loop-k-2 l = l.n - l.k
