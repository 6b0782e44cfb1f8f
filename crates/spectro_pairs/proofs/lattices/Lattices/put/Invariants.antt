-- The pairs of the masks so far have their places.
use Rattle.std.proofs.Common.{ℕ, ◌≡◌, ◌⊎◌, length}
use Rattle.spectro_pairs.specs.Lattices.{HasPlace, IsAtMask}
use Rattle.spectro_pairs.specs.declared.lattices.Place.{Place}
use Rattle.spectro_pairs.proofs.lattices.Lattices.put.Given as goal

abbrev pub invariant-loop-mask : goal.invariant-loop-mask
invariant-loop-mask l = record {
  tables : l.self.tables ≡ l.fn.self.tables;
  count : length l.self.places.items ≡ length l.fn.self.places.items;
  places : (k : ℕ) (place : Place) → HasPlace l.self k place → HasPlace l.fn.self k place ⊎ IsAtMask l.table l.no k place;
}
