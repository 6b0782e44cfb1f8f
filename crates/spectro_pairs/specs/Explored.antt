-- What an arena has, and what it was explored from.
use Rattle.std.specs.Prelude.{ℕ, ◌≡◌, ◌<◌, List, [], ◌∷◌, map, All, Some, slice_get}
use Rattle.std.specs.List.{flat_map}
use Rattle.std.specs.List.Sorted.{IsStrictlyIncreasing}
use Rattle.spectro_spec.specs.System.{Label, System, post}
use Rattle.spectro_spec.specs.LabelOrder.{labels_from}
use Rattle.spectro_spec.specs.Weighing.{Weighing, IsWeighing, weight_of}
use Rattle.spectro_game.specs.Pairs.{Pair, followers, AreReachedPairs}
use Rattle.spectro_theory.specs.Reaching.{with_all, is_same_pair}
use Rattle.spectro_lts.specs.Labels.{labels_of}

-- the states rise, and are below the number of states
pub record IsSetWithin (states : ℕ) (set : List ℕ) : Type 0 where
  pub rises : IsStrictlyIncreasing set
  pub in_range : All (λ q. q < states) set

-- the state and the set are within so many states
pub record IsPairWithin (states : ℕ) (x : Pair) : Type 0 where
  pub state : x.state < states
  pub set : IsSetWithin states x.set

-- the first state against the second alone
abbrev pub start_pair : ℕ × ℕ → Pair
start_pair start = record { state = start.0; set = start.1 ∷ [] }

-- the starts as pairs, each once
abbrev pub start_pairs : List (ℕ × ℕ) → List Pair
start_pairs starts = with_all is_same_pair [] (map start_pair starts)

-- the label under which each pair is observed, in the order of the observed pairs
unfoldable pub observed_labels : System → Pair → List Label
observed_labels system x = flat_map (λ label. map (λ t. label) (post system (x.state ∷ []) label)) (labels_from system.steps x.state)

-- the pairs, for each of them the numbers of the pairs that follow and of the labels of its observations, and the weight of each label
pub record Explored : Type 0 where
  pub pairs : List Pair
  pub followers : List (List ℕ)
  pub labels : List (List ℕ)
  pub weights : List ℕ

-- the numbers of each row are the places of the members of its list
abbrev pub NameRows : {X : Type 0} → List X → List (List ℕ) → List (List X) → Type 0
NameRows members rows lists = map (map (slice_get members)) rows ≡ map (map Some) lists

-- the arena has just the pairs that the starts reach, in the order in which they are found,
-- all within the states of the system, with their followers, and the labels and weights of their observations; no label weighs more than 255
pub record IsExploredFrom (system : System) (weighing : Weighing) (starts : List (ℕ × ℕ)) (explored : Explored) : Type 0 where
  pub reached : AreReachedPairs system (start_pairs starts) explored.pairs
  pub within : All (IsPairWithin system.states) explored.pairs
  pub followers : NameRows explored.pairs explored.followers (map (followers system) explored.pairs)
  pub labels : NameRows (labels_of system.steps) explored.labels (map (observed_labels system) explored.pairs)
  pub weights : explored.weights ≡ map (weight_of weighing) (labels_of system.steps)
  pub proper : IsWeighing weighing
