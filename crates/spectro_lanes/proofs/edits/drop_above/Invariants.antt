use Rattle.std.proofs.Common.{ℕ, ◌≡◌, ◌<◌, ◌≤◌}
use Rattle.spectro_game.specs.MinimalElements.{not_above}
use Rattle.spectro_energy.specs.Energy.{price_of}
use Rattle.spectro_lanes.specs.Columns.{price_at, prices_in}
use Rattle.spectro_lanes.proofs.edits.drop_above.Given as goal

abbrev pub invariant-loop-k : goal.invariant-loop-k
invariant-loop-k l = (l.kept ≤ l.k) × (prices_in l.stride l.numbers l.kept ≡ not_above (price_of l.e.parts) (prices_in l.stride l.fn.numbers l.k))
    × ((i : ℕ) → l.k ≤ i → i < l.stride → price_at l.stride l.numbers i ≡ price_at l.stride l.fn.numbers i)
