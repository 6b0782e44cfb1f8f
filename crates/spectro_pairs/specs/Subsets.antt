-- Subsets of a set by their masks.
use Rattle.std.specs.Prelude.{ℕ, ◌≡◌, List, [], slice_index_or}
use Rattle.spectro_game.specs.Divisions.{Division, divisions}
use Rattle.spectro_game.specs.Reached.{StandsAt}

-- the members are the left part of the division at the place of the mask
abbrev pub IsSubsetAt : List ℕ → ℕ → List ℕ → Type 0
IsSubsetAt set mask members = (division : Division) × StandsAt (divisions set) mask division × (division.left ≡ members)

-- the members whose bits are set in the mask
unfoldable pub subset_at : List ℕ → ℕ → List ℕ
subset_at set mask = (slice_index_or (divisions set) mask (record { left = []; right = [] })).left
