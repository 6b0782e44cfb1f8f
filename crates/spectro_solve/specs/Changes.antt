-- The lists that a generation changes.
use Rattle.std.specs.Prelude.{ℕ, ◌≡◌, ◌≢◌, ◌<◌, ◌⊎◌, List, [], ◌∷◌, ◌++◌, length, Contains}
use Rattle.spectro_spec.specs.System.{System}
use Rattle.spectro_spec.specs.Price.{Price}
use Rattle.spectro_game.specs.Pairs.{Pair, IsFollower}
use Rattle.spectro_game.specs.Reached.{StandsAt}
use Rattle.spectro_rows.specs.Rows.{row_at}
use Rattle.spectro_pairs.specs.Explored.{Explored}
use Rattle.spectro_solve.specs.Evaluations.{IsEvaluated}
use Rattle.spectro_solve.specs.declared.generations.Change.{Change}

-- the list is a new one of pair k
abbrev pub Changes : List Change → ℕ → List Price → Type 0
Changes changes k list = Contains changes (record { pair = k; list = list })

-- pair k has a new list
abbrev pub HasChange : List Change → ℕ → Type 0
HasChange changes k = (list : List Price) × Changes changes k list

-- each is of one of the first n pairs
abbrev pub AreWithin : ℕ → List Change → Type 0
AreWithin n changes = (k : ℕ) (list : List Price) → Changes changes k list → k < n

-- the evaluation at pair k made the list that stands in its row, or another one, which went last
abbrev pub HasEvaluated : Explored → List (List Price) → ℕ → List Change → List Change → Type 0
HasEvaluated explored rows k old new =
    ((new ≡ old) × IsEvaluated explored rows k (row_at rows k))
    ⊎ ((list : List Price) × (new ≡ old ++ record { pair = k; list = list } ∷ []) × IsEvaluated explored rows k list × (list ≢ row_at rows k))

-- the changes are what evaluations at the pairs of these numbers make that does not stand in their rows
pub record AreChanges (explored : Explored) (rows : List (List Price)) (numbers : List ℕ) (changes : List Change) : Type 0 where
  pub within : (k : ℕ) (list : List Price) → Changes changes k list → Contains numbers k
  pub evaluated : (k : ℕ) (list : List Price) → Changes changes k list → IsEvaluated explored rows k list
  pub other : (k : ℕ) (list : List Price) → Changes changes k list → list ≢ row_at rows k
  pub whole : (k : ℕ) → Contains numbers k → IsEvaluated explored rows k (row_at rows k) ⊎ ((list : List Price) × Changes changes k list)

-- row k is a new list of pair k, or it is as before and pair k has no new list
abbrev pub IsPutAt : List Change → List (List Price) → List (List Price) → ℕ → Type 0
IsPutAt changes old new k =
    Changes changes k (row_at new k) ⊎ ((row_at new k ≡ row_at old k) × ((list : List Price) → ¬ Changes changes k list))

-- the new lists stand in place of the old ones
pub record ArePut (changes : List Change) (old new : List (List Price)) : Type 0 where
  pub many : length new ≡ length old
  pub rows : (k : ℕ) → IsPutAt changes old new k

-- pair k has a pair with a new list as a follower
pub record PrecedesSome (system : System) (pairs : List Pair) (changes : List Change) (k : ℕ) : Type 0 where
  pub changed : ℕ
  pub list : List Price
  pub change : Changes changes changed list
  pub from : Pair
  pub here : StandsAt pairs k from
  pub to : Pair
  pub there : StandsAt pairs changed to
  pub follows : IsFollower system from.state from.set to.state to.set
