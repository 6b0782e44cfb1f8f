-- The list of what is reached from starts by a function of followers. Members are named by their places.
use Rattle.std.specs.Prelude.{ℕ, ◌≡◌, ◌<◌, ◌≤◌, ◌⊎◌, List, length, slice_get, Some}

-- the member at the place is x
abbrev pub StandsAt : {X : Type 0} → List X → ℕ → X → Type 0
StandsAt xs i x = slice_get xs i ≡ Some x

-- x is a member at some place
abbrev pub StandsIn : {X : Type 0} → List X → X → Type 0
StandsIn xs x = (i : ℕ) × StandsAt xs i x

-- the follower at place r of the member at place i comes before that at place s of the member at place k
abbrev pub IsFoundBefore : ℕ → ℕ → ℕ → ℕ → Type 0
IsFoundBefore i r k s = (i < k) ⊎ ((i ≡ k) × (r < s))

-- y stands at place r among the followers of the member at place i
abbrev pub Follows : {X : Type 0} → (X → List X) → List X → ℕ → ℕ → X → Type 0
Follows {X} follow xs i r y = (x : X) × StandsAt xs i x × StandsAt (follow x) r y

-- the member at place i is the first that has y as a follower, and r is the first place of y among its followers
pub record IsFoundAt {X : Type 0} (follow : X → List X) (xs : List X) (i r : ℕ) (y : X) : Type 0 where
  pub follows : Follows follow xs i r y
  pub finder : (h t : ℕ) → h < i → Follows follow xs h t y → ⊥
  pub rank : (t : ℕ) → t < r → Follows follow xs i t y → ⊥

-- the starts are without repeats
pub record AreReached {X : Type 0} (follow : X → List X) (starts xs : List X) : Type 0 where
  -- no member stands twice
  pub distinct : (i j : ℕ) (x : X) → StandsAt xs i x → StandsAt xs j x → i ≡ j
  -- the starts come first, in their order
  pub begins : (i : ℕ) (x : X) → StandsAt starts i x → StandsAt xs i x
  -- each follower of a member is a member
  pub closed : (i r : ℕ) (y : X) → Follows follow xs i r y → StandsIn xs y
  -- each later member has an earlier one that finds it
  pub found : (j : ℕ) (y : X) → length starts ≤ j → StandsAt xs j y → (i : ℕ) × (r : ℕ) × (i < j) × IsFoundAt follow xs i r y
  -- the later members stand in the order in which they are found
  pub rising : (j l : ℕ) (y z : X) (i r h s : ℕ) → length starts ≤ j → j < l → StandsAt xs j y → StandsAt xs l z
      → IsFoundAt follow xs i r y → IsFoundAt follow xs h s z → IsFoundBefore i r h s
