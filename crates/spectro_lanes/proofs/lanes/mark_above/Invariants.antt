use Rattle.std.proofs.Common.{ℕ, ◌-◌, ◌<◌, ◌≤◌, IsTrue, false, slice_index_or}
use Rattle.std.specs.Prelude.{◌↔◌}
use Rattle.spectro_spec.specs.Price.{IsAtMost}
use Rattle.spectro_energy.specs.Energy.{price_of}
use Rattle.spectro_lanes.specs.Columns.{price_at}
use Rattle.spectro_lanes.proofs.lanes.mark_above.Given as goal

abbrev pub invariant-loop-k : goal.invariant-loop-k
invariant-loop-k l = (l.k ≤ l.n)
    × ((i : ℕ) → i < l.k → IsTrue (slice_index_or l.marks i false) ↔ IsAtMost (price_of l.e.parts) (price_at l.stride l.numbers i))

abbrev pub decreases-loop-k : goal.decreases-loop-k
decreases-loop-k l = l.n - l.k

abbrev pub invariant-loop-k-2 : goal.invariant-loop-k-2
invariant-loop-k-2 l = (l.k ≤ l.n)
    × ((i : ℕ) → i < l.k → IsTrue (slice_index_or l.marks i false) ↔ IsAtMost (price_of l.e.parts) (price_at l.stride l.numbers i))

abbrev pub decreases-loop-k-2 : goal.decreases-loop-k-2
decreases-loop-k-2 l = l.n - l.k
