-- Tables of the pairs of one state and the subsets of one set, and where the pairs below find their own subsets in them.
use Rattle.std.specs.Prelude.{ℕ, zero, suc, ◌+◌, ◌-◌, ◌^◌, ◌<◌, ◌≤◌, ◌≡◌, List, [], ◌∷◌, ◌++◌, length, slice_index, bit_and, Vec}
use Rattle.std.specs.declared.alloc.Global.{Global}
use Rattle.spectro_game.specs.Pairs.{Pair}
use Rattle.spectro_game.specs.Reached.{StandsAt}
use Rattle.spectro_pairs.specs.Subsets.{subset_at}
use Rattle.spectro_pairs.specs.declared.lattices.Lattices.{Lattices}
use Rattle.spectro_pairs.specs.declared.lattices.Place.{Place}

-- the submask i of a mask of at most 19 bits, from 0 on in rising order
unfoldable pub submask : ℕ → ℕ → ℕ
submask mask zero = 0
submask mask (suc i) = bit_and (submask mask i + (524287 - mask) + 1) mask

-- the numbers that the table has at the first n submasks that are not 0
unfoldable pub numbers_to : List ℕ → ℕ → ℕ → List ℕ
numbers_to table mask zero = []
numbers_to table mask (suc n) = numbers_to table mask n ++ slice_index table (submask mask (suc n)) ∷ []

-- the number at the place in the table is that of the pair of the state of x and the subset of mask i of its set
pub record IsEntry (pairs : List Pair) (table : List ℕ) (place : ℕ) (x : Pair) (i : ℕ) : Type 0 where
  pub within : place < length table
  pub there : StandsAt pairs (slice_index table place) (record { state = x.state; set = subset_at x.set i })

-- the table has the numbers of the pairs of the state and the subsets of the masks from 1 up to this one
pub record IsFilled (pairs : List Pair) (table : List ℕ) (state : ℕ) (set : List ℕ) (mask : ℕ) : Type 0 where
  pub count : length table ≡ mask
  pub numbers : (i : ℕ) → 1 ≤ i → i < mask → StandsAt pairs (slice_index table i) (record { state = state; set = subset_at set i })

-- the place is kept for pair k, and has a mask
pub record HasPlace (lattices : Lattices) (k : ℕ) (place : Place) : Type 0 where
  pub here : StandsAt lattices.places.items k place
  pub some : 1 ≤ place.mask

-- the pair has its number at the mask in the table of the number
pub record IsAtMask (table : List ℕ) (no k : ℕ) (place : Place) : Type 0 where
  pub own : place.table ≡ no
  pub some : 1 ≤ place.mask
  pub within : place.mask < length table
  pub number : slice_index table place.mask ≡ k

-- so it is in the table, which is kept
pub record IsNewPlace (lattices : Lattices) (table : Vec ℕ Global) (k : ℕ) (place : Place) : Type 0 where
  pub kept : StandsAt lattices.tables.items place.table table
  pub at_mask : IsAtMask table.items place.table k place

-- the subsets of the set of pair k are at the submasks of the mask in the table
pub record IsPlaced (pairs : List Pair) (tables : List (Vec ℕ Global)) (k : ℕ) (place : Place) : Type 0 where
  pub x : Pair
  pub here : StandsAt pairs k x
  pub table : Vec ℕ Global
  pub kept : StandsAt tables place.table table
  pub small : place.mask < 524288
  pub entries : (i : ℕ) → 1 ≤ i → i < 2 ^ length x.set → IsEntry pairs table.items (submask place.mask i) x i

-- each place that is kept is such
abbrev pub AreLattices : List Pair → Lattices → Type 0
AreLattices pairs lattices = (k : ℕ) (place : Place) → HasPlace lattices k place → IsPlaced pairs lattices.tables.items k place
