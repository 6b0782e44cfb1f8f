-- Sets and pairs by number, as the code keeps them.
use Rattle.std.specs.Prelude.{ℕ, ◌≡◌, ◌<◌, ◌≤◌, List, [], ◌∷◌, map, length, slice_index_or, All, Vec}
use Rattle.std.specs.declared.alloc.Global.{Global}
use Rattle.spectro_game.specs.Pairs.{Pair, size}
use Rattle.spectro_game.specs.Reached.{StandsAt}
use Rattle.spectro_theory.specs.Reaching.{StandOnce}
use Rattle.spectro_pairs.specs.Explored.{IsSetWithin}
use Rattle.spectro_pairs.specs.Known.{Knows}
use Rattle.spectro_pairs.specs.declared.known.Known.{Known}
use Rattle.spectro_pairs.specs.declared.pairs.Key.{Key}
use Rattle.spectro_pairs.specs.declared.pairs.TheConstants.{MAX_LIMIT}

-- sets and pairs in the order of their numbers, the number of states, and the greatest size
pub record Interned : Type 0 where
  pub states : ℕ
  pub limit : ℕ
  pub sets : List (List ℕ)
  pub pairs : List Pair

-- the pair of the state and the set of the number
unfoldable pub pair_at : List (List ℕ) → ℕ → ℕ → Pair
pair_at sets state set_no = record { state = state; set = slice_index_or sets set_no [] }

unfoldable pub lists_of : List (Vec ℕ Global) → List (List ℕ)
lists_of sets = map (λ (set : Vec ℕ Global). set.items) sets

unfoldable pub pairs_of : List (List ℕ) → List Key → List Pair
pairs_of sets keys = map (λ (key : Key). pair_at sets key.state key.set) keys

abbrev pub interned : ℕ → ℕ → List (Vec ℕ Global) → List Key → Interned
interned states limit sets keys = record { states = states; limit = limit; sets = lists_of sets; pairs = pairs_of (lists_of sets) keys }

-- the sets differ, are within the states and have numbers below 2^32 - 1, each key has a state and the number of a set,
-- the size is that of the pairs and at most the limit, what is known of a pair is its number, and what is known of a state
-- is the number of the set of it alone
pub record AreInterned (states limit size_of_pairs : ℕ) (known singletons : Known) (sets : List (Vec ℕ Global)) (keys : List Key) : Type 0 where
  pub once : StandOnce (lists_of sets)
  pub within : All (IsSetWithin states) (lists_of sets)
  pub in_range : All (λ (key : Key). key.state < states) keys
  pub numbered : All (λ (key : Key). key.set < length (lists_of sets)) keys
  pub apart : StandOnce keys
  pub sized : size_of_pairs ≡ size (pairs_of (lists_of sets) keys)
  pub small : size_of_pairs ≤ limit
  pub bound : limit ≤ MAX_LIMIT
  pub few : length (lists_of sets) ≤ 4294967295
  pub wide : known.width ≡ states
  pub exact : (set state n : ℕ) → Knows known set state n → StandsAt keys n (record { state = state; set = set })
  pub narrow : singletons.width ≡ 1
  pub alone : (q column n : ℕ) → Knows singletons q column n → StandsAt (lists_of sets) n (q ∷ [])

-- the pair of the number is such
abbrev pub IsPairAt : List Pair → ℕ → (Pair → Type 0) → Type 0
IsPairAt pairs k Holds = (x : Pair) × StandsAt pairs k x × Holds x
