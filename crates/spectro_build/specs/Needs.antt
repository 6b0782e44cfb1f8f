-- Keys of what is needed.
use Rattle.std.specs.Prelude.{ℕ, ◌≡◌, ◌<◌, ◌⊎◌, List, [], ◌∷◌, Contains}
use Rattle.spectro_spec.specs.Price.{IsFirstSmaller}
use Rattle.spectro_game.specs.Reached.{StandsAt}
use Rattle.spectro_build.specs.declared.key.Key.{Key}

-- the key is among the new ones, and else these are the old ones, at their old places
pub record IsPut (old : List Key) (key : Key) (new : List Key) : Type 0 where
  pub there : Contains new key
  pub kept : (i : ℕ) (other : Key) → StandsAt old i other → StandsAt new i other
  pub only : (other : Key) → Contains new other → Contains old other ⊎ (other ≡ key)

-- so it is with each of the keys
pub record ArePut (old : List Key) (keys : List Key) (new : List Key) : Type 0 where
  pub there : (key : Key) → Contains keys key → Contains new key
  pub kept : (i : ℕ) (other : Key) → StandsAt old i other → StandsAt new i other
  pub only : (other : Key) → Contains new other → Contains old other ⊎ Contains keys other

-- what orders keys: height, pair, and place
abbrev pub row_of : Key → List ℕ
row_of key = key.height ∷ key.pair ∷ key.place ∷ []

-- each comes before all later ones
abbrev pub DoKeysRise : List Key → Type 0
DoKeysRise keys = (i j : ℕ) (one other : Key) → i < j → StandsAt keys i one → StandsAt keys j other → IsFirstSmaller (row_of one) (row_of other)
