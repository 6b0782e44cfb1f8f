-- How an exploration grows.
use Rattle.std.specs.Prelude.{ℕ, ◌≡◌, List, [], ◌∷◌, ◌++◌, length, map, take, slice_get, Some}
use Rattle.spectro_spec.specs.System.{System, post}
use Rattle.spectro_game.specs.Pairs.{Pair, followers, observed, observed_under, size}
use Rattle.spectro_game.specs.Reached.{StandsAt}
use Rattle.spectro_theory.specs.Reaching.{AreReachedPairsTo, with_all, is_same_pair}
use Rattle.spectro_lts.specs.Labels.{labels_of, label_of}
use Rattle.spectro_pairs.specs.Explored.{NameRows, observed_labels, start_pairs}
use Rattle.spectro_pairs.specs.Known.{Knows}
use Rattle.spectro_pairs.specs.Lattices.{AreLattices}
use Rattle.spectro_pairs.specs.Limits.{IsPastLimit}
use Rattle.spectro_pairs.specs.declared.error.ExploreError.{ExploreError}
use Rattle.spectro_pairs.specs.declared.exploration.Exploration.{Exploration}

abbrev pub pair_of : ℕ → List ℕ → Pair
pair_of state set = record { state = state; set = set }

-- what is observed under the label of the number
abbrev pub observed_with : System → ℕ → List ℕ → ℕ → List Pair
observed_with system state set label_no = observed_under system (pair_of state set) (label_of system.steps label_no)

-- what is kept by state and label is the number of the set of successors
pub record ArePosts (system : System) (exploration : Exploration) : Type 0 where
  pub wide : exploration.posts.width ≡ length (labels_of system.steps)
  pub exact : (q label_no n : ℕ) → Knows exploration.posts q label_no n
      → StandsAt exploration.pairs.sets n (post system (q ∷ []) (label_of system.steps label_no))

-- what is kept for a system is kept for it
abbrev pub KeepsPosts : Exploration → Exploration → Type 0
KeepsPosts old new = (system : System) → ArePosts system old → ArePosts system new

-- the numbers are the places of the members
abbrev pub Name : {X : Type 0} → List X → List ℕ → List X → Type 0
Name members numbers xs = map (slice_get members) numbers ≡ map Some xs

-- the subsets that are kept are those of pairs, where they were
abbrev pub KeepsLattices : Exploration → Exploration → Type 0
KeepsLattices old new = AreLattices old.pairs.pairs old.lattices → AreLattices new.pairs.pairs new.lattices

-- each of the pairs went last unless it stood there; the rest stays, but that more sets may be numbered
pub record HasStarted (old new : Exploration) (added : List Pair) : Type 0 where
  pub states : new.pairs.states ≡ old.pairs.states
  pub limit : new.pairs.limit ≡ old.pairs.limit
  pub pairs : new.pairs.pairs ≡ with_all is_same_pair old.pairs.pairs added
  pub followers : new.followers ≡ old.followers
  pub labels : new.labels ≡ old.labels
  pub lattices : KeepsLattices old new

-- each of the pairs went last unless it stood there, their numbers are behind the open row of followers, and the labels behind that of labels
pub record HasReached (old new : Exploration) (added : List Pair) (label_nos : List ℕ) : Type 0 where
  pub states : new.pairs.states ≡ old.pairs.states
  pub limit : new.pairs.limit ≡ old.pairs.limit
  pub pairs : new.pairs.pairs ≡ with_all is_same_pair old.pairs.pairs added
  pub numbers : List ℕ
  pub followers : new.followers ≡ record old.followers { last = old.followers.last ++ numbers }
  pub named : Name new.pairs.pairs numbers added
  pub labels : new.labels ≡ record old.labels { last = old.labels.last ++ label_nos }
  pub lattices : KeepsLattices old new

-- all that is observed from x was reached
pub record HasObserved (system : System) (old new : Exploration) (x : Pair) : Type 0 where
  pub label_nos : List ℕ
  pub reached : HasReached old new (observed system x) label_nos
  pub labelled : Name (labels_of system.steps) label_nos (observed_labels system x)

-- the followers of pair k were reached, and there is a row more of their numbers and one of labels
pub record HasExpanded (system : System) (old new : Exploration) (k : ℕ) : Type 0 where
  pub x : Pair
  pub here : StandsAt old.pairs.pairs k x
  pub states : new.pairs.states ≡ old.pairs.states
  pub limit : new.pairs.limit ≡ old.pairs.limit
  pub pairs : new.pairs.pairs ≡ with_all is_same_pair old.pairs.pairs (followers system x)
  pub numbers : List ℕ
  pub rows : new.followers ≡ record { rows = old.followers.rows ++ numbers ∷ []; last = [] }
  pub named : Name new.pairs.pairs numbers (followers system x)
  pub label_nos : List ℕ
  pub label_rows : new.labels ≡ record { rows = old.labels.rows ++ label_nos ∷ []; last = [] }
  pub labelled : Name (labels_of system.steps) label_nos (observed_labels system x)
  pub lattices : KeepsLattices old new

-- with these pairs the size is past the limit
abbrev pub IsPastWith : ExploreError → Exploration → List Pair → Type 0
IsPastWith e exploration added = IsPastLimit e exploration.pairs.limit (size (with_all is_same_pair exploration.pairs.pairs added))

-- with the followers of pair k it is
abbrev pub IsPastFollowers : ExploreError → System → Exploration → ℕ → Type 0
IsPastFollowers e system exploration k = (x : Pair) × StandsAt exploration.pairs.pairs k x × IsPastWith e exploration (followers system x)

-- the followers of the first k pairs are reached, with rows for these k
pub record AreExplored (system : System) (starts : List (ℕ × ℕ)) (exploration : Exploration) (k : ℕ) : Type 0 where
  pub states : exploration.pairs.states ≡ system.states
  pub posts : ArePosts system exploration
  pub lattices : AreLattices exploration.pairs.pairs exploration.lattices
  pub reached : AreReachedPairsTo system (start_pairs starts) exploration.pairs.pairs k
  pub followers_closed : exploration.followers.last ≡ []
  pub followers : NameRows exploration.pairs.pairs exploration.followers.rows (map (followers system) (take k exploration.pairs.pairs))
  pub labels_closed : exploration.labels.last ≡ []
  pub labels : NameRows (labels_of system.steps) exploration.labels.rows (map (observed_labels system) (take k exploration.pairs.pairs))
