use Rattle.std.proofs.Common.{ℕ, ◌<◌}
use Rattle.spectro_spec.specs.Price.{ComesBefore}
use Rattle.spectro_energy.specs.Energy.{price_of}
use Rattle.spectro_lanes.specs.Columns.{price_at}
use Rattle.spectro_lanes.proofs.edits.first_after.Given as goal

abbrev pub invariant-loop-k : goal.invariant-loop-k
invariant-loop-k l = (i : ℕ) → i < l.k → ¬ ComesBefore (price_of l.e.parts) (price_at l.stride l.numbers i)
