-- Laws of what is reached: that there is such a list, and how it is found pair by pair.
use Rattle.std.specs.Prelude.{ℕ, ◌≡◌, ◌≤◌, ◌+◌, ◌⊎◌, ◌↔◌, List, [], ◌++◌, length, true}
use Rattle.spectro_spec.specs.System.{System}
use Rattle.spectro_game.specs.Pairs.{Pair, followers, AreReachedPairs, size}
use Rattle.spectro_game.specs.Reached.{StandsAt, StandsIn}
use Rattle.spectro_theory.specs.Reaching.{StandOnce, AreReachedPairsTo, with_all, is_same_pair}

-- starts without repeats reach a list of pairs
abbrev pub ReachedPairsExist : Type 0
ReachedPairsExist = (system : System) (starts : List Pair) → StandOnce starts → (pairs : List Pair) × AreReachedPairs system starts pairs

-- starts without repeats are what they reach by the followers of none
abbrev pub ReachingBegins : Type 0
ReachingBegins = (system : System) (starts : List Pair) → StandOnce starts → AreReachedPairsTo system starts starts 0

-- what is reached by the first k pairs, with each follower of the pair at place k put last unless it stands there, is what is reached by the first k + 1
abbrev pub ReachingGoesOn : Type 0
ReachingGoesOn =
    (system : System) (starts pairs : List Pair) (k : ℕ) (x : Pair) → AreReachedPairsTo system starts pairs k → StandsAt pairs k x
    → AreReachedPairsTo system starts (with_all is_same_pair pairs (followers system x)) (k + 1)

-- what is reached by the followers of all its pairs is what the starts reach
abbrev pub ReachingEnds : Type 0
ReachingEnds = (system : System) (starts pairs : List Pair) → AreReachedPairsTo system starts pairs (length pairs) ↔ AreReachedPairs system starts pairs

-- the front begins the list, and has no more members and no greater size
pub record IsFront (front pairs : List Pair) : Type 0 where
  pub rest : List Pair
  pub whole : pairs ≡ front ++ rest
  pub shorter : length front ≤ length pairs
  pub smaller : size front ≤ size pairs

-- what is reached by the first k pairs is a front of each list of what is reached
abbrev pub ReachedFrontsAreFronts : Type 0
ReachedFrontsAreFronts =
    (system : System) (starts front pairs : List Pair) (k : ℕ) → AreReachedPairsTo system starts front k → AreReachedPairs system starts pairs
    → IsFront front pairs

-- the new pairs begin with the old ones, are just the old and the added ones, and none stands twice where no old one does
pub record HavePutLast (old added new : List Pair) : Type 0 where
  pub front : IsFront old new
  pub members : (x : Pair) → StandsIn new x ↔ (StandsIn old x ⊎ StandsIn added x)
  pub once : StandOnce old → StandOnce new

abbrev pub PairsArePutLast : Type 0
PairsArePutLast = (old added : List Pair) → HavePutLast old added (with_all is_same_pair old added)

-- to put more pairs last after others is to put all of them last
abbrev pub PuttingLastGoesOn : Type 0
PuttingLastGoesOn = (old added more : List Pair) → with_all is_same_pair (with_all is_same_pair old added) more ≡ with_all is_same_pair old (added ++ more)

-- pairs without repeats are put last as they are
abbrev pub PairsWithoutRepeatsStay : Type 0
PairsWithoutRepeatsStay = (pairs : List Pair) → StandOnce pairs → with_all is_same_pair [] pairs ≡ pairs

-- the test of pairs finds just the equal ones
abbrev pub SamePairsAreEqual : Type 0
SamePairsAreEqual = (x y : Pair) → is_same_pair x y ≡ true ↔ x ≡ y
