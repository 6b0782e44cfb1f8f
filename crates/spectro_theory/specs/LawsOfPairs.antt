-- Laws of pairs: what follows one, in which order, and what is reached.
use Rattle.std.specs.Prelude.{ℕ, ◌≡◌, ◌≢◌, ◌<◌, ◌^◌, ◌⊎◌, ◌↔◌, List, [], ◌∷◌, length, Contains}
use Rattle.std.specs.Int.{bit_at}
use Rattle.spectro_spec.specs.System.{Label, System, HasStep, post}
use Rattle.spectro_game.specs.Divisions.{IsDivided, Division, divisions}
use Rattle.spectro_game.specs.Pairs.{Pair, IsFollower, IsClosed, IsOneOf, AreReachedPairs}
use Rattle.spectro_game.specs.Reached.{StandsAt}

-- after a step, with a subset that is not empty, or as another member against the state
abbrev pub FollowsByCase : System → ℕ → List ℕ → ℕ → List ℕ → Type 0
FollowsByCase system p qs p' qs' =
    ((label : Label) × HasStep system p label p' × (qs' ≡ post system qs label))
    ⊎ (((p' ≡ p) × (qs' ≢ []) × ((right : List ℕ) × IsDivided qs qs' right))
    ⊎ (Contains qs p' × (p ≢ p') × (qs' ≡ p ∷ [])))

abbrev pub FollowersAreByCase : Type 0
FollowersAreByCase = (system : System) (p : ℕ) (qs : List ℕ) (p' : ℕ) (qs' : List ℕ) → IsFollower system p qs p' qs' ↔ FollowsByCase system p qs p' qs'

-- the left part has the members whose places are set bits of the mask, and the right part the others
pub record IsByMask (qs : List ℕ) (mask : ℕ) (d : Division) : Type 0 where
  pub divided : IsDivided qs d.left d.right
  pub left : (q : ℕ) → Contains d.left q ↔ ((i : ℕ) × StandsAt qs i q × (bit_at mask i ≡ 1))
  pub right : (q : ℕ) → Contains d.right q ↔ ((i : ℕ) × StandsAt qs i q × (bit_at mask i ≡ 0))

-- there is a division for each mask, and they stand in the order of the masks
pub record AreByMask (qs : List ℕ) (ds : List Division) : Type 0 where
  pub count : length ds ≡ 2 ^ length qs
  pub place : (mask : ℕ) → mask < 2 ^ length qs → (d : Division) × StandsAt ds mask d × IsByMask qs mask d

abbrev pub DivisionsAreByMask : Type 0
DivisionsAreByMask = (qs : List ℕ) → AreByMask qs (divisions qs)

-- starts reach one list of pairs
abbrev pub ReachedPairsAreOne : Type 0
ReachedPairsAreOne = (system : System) (starts xs ys : List Pair) → AreReachedPairs system starts xs → AreReachedPairs system starts ys → xs ≡ ys

-- with each of them its followers are among them
abbrev pub ReachedPairsAreClosed : Type 0
ReachedPairsAreClosed = (system : System) (starts xs : List Pair) → AreReachedPairs system starts xs → IsClosed system (IsOneOf xs)
