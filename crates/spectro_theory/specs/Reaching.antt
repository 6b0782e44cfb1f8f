-- What is reached up to a place, and how it grows: each follower is put last unless it stands there already.
use Rattle.std.specs.Prelude.{ℕ, ◌≡◌, ◌<◌, ◌≤◌, ◌==◌, ◌&&◌, List, [], ◌∷◌, ◌++◌, length, Bool, if◌then◌else◌}
use Rattle.std.specs.List.{list_any}
use Rattle.std.specs.Str.{bytes_eq}
use Rattle.spectro_spec.specs.System.{System}
use Rattle.spectro_game.specs.Pairs.{Pair, followers}
use Rattle.spectro_game.specs.Reached.{StandsAt, StandsIn, IsFoundBefore, Follows, IsFoundAt}

-- no member stands twice
abbrev pub StandOnce : {X : Type 0} → List X → Type 0
StandOnce {X} xs = (i j : ℕ) (x : X) → StandsAt xs i x → StandsAt xs j x → i ≡ j

-- what the starts reach up to place (k, r): the followers before it are members, and each later member is found before it
pub record AreReachedTo {X : Type 0} (follow : X → List X) (starts xs : List X) (k r : ℕ) : Type 0 where
  pub distinct : StandOnce xs
  pub begins : (i : ℕ) (x : X) → StandsAt starts i x → StandsAt xs i x
  pub closed : (i s : ℕ) (y : X) → Follows follow xs i s y → IsFoundBefore i s k r → StandsIn xs y
  pub found : (j : ℕ) (y : X) → length starts ≤ j → StandsAt xs j y → (i : ℕ) × (s : ℕ) × (i < j) × IsFoundAt follow xs i s y × IsFoundBefore i s k r
  pub rising : (j l : ℕ) (y z : X) (i s h t : ℕ) → length starts ≤ j → j < l → StandsAt xs j y → StandsAt xs l z
      → IsFoundAt follow xs i s y → IsFoundAt follow xs h t z → IsFoundBefore i s h t

-- the pairs that the starts reach by the followers of the first k of them
abbrev pub AreReachedPairsTo : System → List Pair → List Pair → ℕ → Type 0
AreReachedPairsTo system starts pairs k = AreReachedTo (followers system) starts pairs k 0

-- x is put last unless it stands there
unfoldable pub with_last : {X : Type 0} → (X → X → Bool) → List X → X → List X
with_last same xs x = if list_any (same x) xs then xs else xs ++ x ∷ []

-- each in turn is put last unless it stands there
unfoldable pub with_all : {X : Type 0} → (X → X → Bool) → List X → List X → List X
with_all same xs [] = xs
with_all same xs (y ∷ ys) = with_all same (with_last same xs y) ys

-- whether the pairs have the same state and the same set
unfoldable pub is_same_pair : Pair → Pair → Bool
is_same_pair x y = (x.state == y.state) && bytes_eq x.set y.set
