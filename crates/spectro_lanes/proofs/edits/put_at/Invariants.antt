use Rattle.std.proofs.Common.{ℕ, ◌≡◌, ◌+◌, ◌<◌, ◌≤◌}
use Rattle.spectro_lanes.specs.Columns.{price_at}
use Rattle.spectro_lanes.proofs.edits.put_at.Given as goal

abbrev pub invariant-loop-k : goal.invariant-loop-k
invariant-loop-k l = (l.place ≤ l.k) × (l.k ≤ l.n) × ((i : ℕ) → i < l.k → price_at l.stride l.numbers i ≡ price_at l.stride l.fn.numbers i)
    × ((i : ℕ) → l.k ≤ i → i < l.n → price_at l.stride l.numbers (i + 1) ≡ price_at l.stride l.fn.numbers i)

abbrev pub decreases-loop-k : goal.decreases-loop-k
decreases-loop-k l = l.k
