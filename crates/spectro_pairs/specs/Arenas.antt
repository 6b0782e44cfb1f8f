-- What the calls of an arena answer.
use Rattle.std.specs.Prelude.{ℕ, ◌≡◌, ◌≢◌, ◌≤◌, ◌-◌, ◌⊎◌, ◌↔◌, List, [], ◌∷◌, Option, Some, None, All, Contains, length, slice_get}
use Rattle.std.specs.Option.{option_map_or}
use Rattle.spectro_spec.specs.System.{Label, System}
use Rattle.spectro_spec.specs.Weighing.{Weighing, weight_of}
use Rattle.spectro_game.specs.Pairs.{Pair, observed, subsets, IsFollower}
use Rattle.spectro_game.specs.Reached.{StandsAt}
use Rattle.spectro_lts.specs.Labels.{labels_of}
use Rattle.spectro_pairs.specs.Explored.{Explored, IsExploredFrom, observed_labels}
use Rattle.spectro_rows.specs.Turned.{turned}
use Rattle.spectro_lts.specs.declared.draft.TheConstants.{MAX_STEPS}

-- said of each system and each weighing from which the arena was explored
abbrev pub FromEach : Explored → (System → Weighing → Type 0) → Type 0
FromEach explored Holds = (system : System) (weighing : Weighing) (starts : List (ℕ × ℕ)) → IsExploredFrom system weighing starts explored
    → Holds system weighing

-- the set of the pair of the number
abbrev pub set_at : List Pair → ℕ → List ℕ
set_at pairs k = option_map_or (λ (x : Pair). x.set) (slice_get pairs k) []

-- what pair k observes at place i: the number of the label, the number of the pair after the step, and the weight of the label
pub record IsObservation (system : System) (weighing : Weighing) (pairs : List Pair) (k i label_no pair weight : ℕ) : Type 0 where
  pub from : Pair
  pub to : Pair
  pub label : Label
  pub here : StandsAt pairs k from
  pub there : StandsAt pairs pair to
  pub follows : StandsAt (observed system from) i to
  pub labelled : StandsAt (observed_labels system from) i label
  pub numbered : StandsAt (labels_of system.steps) label_no label
  pub weighed : weight ≡ weight_of weighing label

-- the pair of the number is the one of the state of pair k and the subset of the mask
pub record IsSubset (pairs : List Pair) (k mask pair : ℕ) : Type 0 where
  pub from : Pair
  pub to : Pair
  pub here : StandsAt pairs k from
  pub there : StandsAt pairs pair to
  pub follows : StandsAt (subsets from) (mask - 1) to

-- where the member at place i of the set of pair k is another state than that of pair k, the answer is the pair of the two turned round
pub record IsSwap (pairs : List Pair) (k i : ℕ) (answer : Option ℕ) : Type 0 where
  pub from : Pair
  pub q : ℕ
  pub here : StandsAt pairs k from
  pub member : StandsAt from.set i q
  pub own : q ≡ from.state → answer ≡ None
  pub other : q ≢ from.state → (pair : ℕ) × (answer ≡ Some pair) × StandsAt pairs pair (record { state = q; set = from.state ∷ [] })

-- just the pairs that have pair k as a follower
pub record ArePredecessors (system : System) (pairs : List Pair) (k : ℕ) (preds : List ℕ) : Type 0 where
  pub x : Pair
  pub here : StandsAt pairs k x
  pub exact : (j : ℕ) → Contains preds j ↔ ((y : Pair) × StandsAt pairs j y × IsFollower system y.state y.set x.state x.set)

-- no weight is less than this one, which is one of them, or 255 where there is none
pub record IsLeastWeight (weights : List ℕ) (least : ℕ) : Type 0 where
  pub low : All (λ weight. least ≤ weight) weights
  pub reached : Contains weights least ⊎ ((weights ≡ []) × (least ≡ 255))

-- there is a pair, the arena was explored from some system with at most two million steps, its least weight is known, and each pair has its predecessors
pub record IsArena (explored : Explored) (least : ℕ) (rows : List (List ℕ)) : Type 0 where
  pub some : 1 ≤ length explored.pairs
  pub system : System
  pub weighing : Weighing
  pub starts : List (ℕ × ℕ)
  pub source : IsExploredFrom system weighing starts explored
  pub bound : length system.steps ≤ MAX_STEPS
  pub low : IsLeastWeight explored.weights least
  pub preds : rows ≡ turned explored.followers
