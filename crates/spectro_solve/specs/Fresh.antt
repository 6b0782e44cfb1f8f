-- Which lists changed in the generation before, and what a pair's list has already of what its followers make.
use Rattle.std.specs.Prelude.{ℕ, ⊤, zero, suc, ◌≡◌, ◌≢◌, ◌<◌, ◌≤◌, ◌⊎◌, Bool, List, [], ◌∷◌, length, All, Contains}
use Rattle.spectro_spec.specs.System.{Label, System, HasStep, post}
use Rattle.spectro_spec.specs.Weighing.{Weighing, weight_of}
use Rattle.spectro_spec.specs.Price.{Price, IsAtMost}
use Rattle.spectro_spec.specs.LeastPrices.{Covers}
use Rattle.spectro_game.specs.Update.{conjoin, inverse, observe, to_negative, to_other}
use Rattle.spectro_game.specs.Divisions.{IsDivided, Division, divisions}
use Rattle.spectro_game.specs.Pairs.{Pair, observed}
use Rattle.spectro_game.specs.Reached.{StandsAt}
use Rattle.spectro_game.specs.BackwardStep.{Affords}
use Rattle.spectro_game.specs.Generations.{generation, members_of}
use Rattle.spectro_game.specs.Rows.{listed_at}
use Rattle.spectro_theory.specs.LawsOfGenerations.{floor_price}
use Rattle.spectro_rows.specs.Rows.{row_at}
use Rattle.spectro_pairs.specs.Explored.{Explored, observed_labels}
use Rattle.spectro_solve.specs.Added.{AreSomeAdded, IsAdded, IsMadeBy}
use Rattle.spectro_solve.specs.Choices.{AffordsConjunction}
use Rattle.spectro_solve.specs.Evaluations.{AtPair}
use Rattle.spectro_solve.specs.Marks.{IsMarked}

-- y follows x by a split: it is of the same state and a subset that is not empty, or of another member and the state
abbrev pub IsSplitFollower : Pair → Pair → Type 0
IsSplitFollower x y =
    ((y.state ≡ x.state) × (y.set ≢ []) × ((right : List ℕ) × IsDivided x.set y.set right))
    ⊎ (Contains x.set y.state × (x.state ≢ y.state) × (y.set ≡ x.state ∷ []))

-- a conjunction of one negative clause over some price of the list costs at most e
abbrev pub IsNegatedBy : List Price → Price → Type 0
IsNegatedBy es e = (f : Price) × Contains es f × IsAtMost (inverse conjoin (inverse to_other (inverse to_negative f))) e

-- the observation at place i leads to a fresh pair, and makes of its list a price that is at most e
abbrev pub AffordsFreshAt : Weighing → System → Explored → List (List Price) → List Bool → Pair → ℕ → Price → Type 0
AffordsFreshAt weighing system explored rows fresh x i e = (y : Pair) × (label : Label) × (j : ℕ) × StandsAt (observed system x) i y
    × StandsAt (observed_labels system x) i label × StandsAt explored.pairs j y × IsMarked fresh j
    × IsMadeBy (observe (weight_of weighing label)) (row_at rows j) e

-- one of the first n observations does
abbrev pub AffordsFreshAmong : Weighing → System → Explored → List (List Price) → List Bool → Pair → ℕ → Price → Type 0
AffordsFreshAmong weighing system explored rows fresh x n e = (i : ℕ) × (i < n) × AffordsFreshAt weighing system explored rows fresh x i e

-- the set has one member, another state than that of x; the pair of the two turned round is fresh, and a negative clause over its list does
abbrev pub AffordsTurned : Explored → List (List Price) → List Bool → Pair → Price → Type 0
AffordsTurned explored rows fresh x e = (q : ℕ) × (j : ℕ) × (x.set ≡ q ∷ []) × (x.state ≢ q)
    × StandsAt explored.pairs j (record { state = q; set = x.state ∷ [] }) × IsMarked fresh j × IsNegatedBy (row_at rows j) e

-- no pair that follows x by a split is fresh
abbrev pub HasStaleSplits : Explored → List Bool → Pair → Type 0
HasStaleSplits explored fresh x = (j : ℕ) (y : Pair) → StandsAt explored.pairs j y → IsSplitFollower x y → ¬ IsMarked fresh j

-- the price has a conjunction, and to tell a state from some others an observation that costs no less than where no label weighs less
pub record IsOnFloor (weights set : List ℕ) (e : Price) : Type 0 where
  pub conjunctions : 1 ≤ e.conjunctions
  pub observation : set ≢ [] → (least : ℕ) → All (λ weight. least ≤ weight) weights → IsAtMost (floor_price least) e

-- the price is at most each that stands on the floor
abbrev pub IsFloor : List ℕ → List ℕ → Price → Type 0
IsFloor weights set f = (e : Price) → IsOnFloor weights set e → IsAtMost f e

-- all that is made was added, or some of it, so that the floor is reached
abbrev pub IsAddedToFloor : Price → (Price → Type 0) → List Price → List Price → Type 0
IsAddedToFloor f Made old new = IsAdded Made old new ⊎ (AreSomeAdded Made old new × Covers new f)

-- the list of pair k, which is x, has what the followers make that are not fresh, and no more than the rows afford
pub record IsKept (weighing : Weighing) (system : System) (explored : Explored) (rows : List (List Price)) (fresh : List Bool) (k : ℕ) (x : Pair) : Type 0 where
  pub sound : (e : Price) → Covers (row_at rows k) e → Affords weighing system (members_of (listed_at explored.pairs rows)) x.state x.set e
  pub observed : (label : Label) (t j : ℕ) → HasStep system x.state label t → StandsAt explored.pairs j (record { state = t; set = post system x.set label })
      → ¬ IsMarked fresh j → (e : Price) → IsMadeBy (observe (weight_of weighing label)) (row_at rows j) e → Covers (row_at rows k) e
  pub turned : (q j : ℕ) → x.set ≡ q ∷ [] → x.state ≢ q → StandsAt explored.pairs j (record { state = q; set = x.state ∷ [] }) → ¬ IsMarked fresh j
      → (e : Price) → IsNegatedBy (row_at rows j) e → Covers (row_at rows k) e
  pub split : x.set ≢ [] → HasStaleSplits explored fresh x → (e : Price) → AffordsConjunction (listed_at explored.pairs rows) x e → Covers (row_at rows k) e
  pub on_floor : (e : Price) → Affords weighing system (members_of (listed_at explored.pairs rows)) x.state x.set e → IsOnFloor explored.weights x.set e

-- so has that of pair k, for each system and each weighing from which the arena was explored
abbrev pub KeepsAt : Explored → List (List Price) → List Bool → ℕ → Type 0
KeepsAt explored rows fresh k = AtPair explored k (λ system weighing x. IsKept weighing system explored rows fresh k x)

-- the pair is fresh, and a negative clause over its list makes a price that is at most e
abbrev pub IsFreshNegated : List (List Price) → List Bool → ℕ → Price → Type 0
IsFreshNegated rows fresh j e = IsMarked fresh j × IsNegatedBy (row_at rows j) e

-- where x and the subset of a mask from 1 up to n are a pair, it is not fresh
abbrev pub HasStaleSubsets : List Pair → List Bool → Pair → ℕ → Type 0
HasStaleSubsets pairs fresh x n = (mask : ℕ) → 1 ≤ mask → mask < n → (j : ℕ) (d : Division) → StandsAt (divisions x.set) mask d
    → StandsAt pairs j (record { state = x.state; set = d.left }) → ¬ IsMarked fresh j

-- where the member at the place, another state, and the state are a pair, it is not fresh
abbrev pub IsStaleSwap : List Pair → List Bool → Pair → ℕ → Type 0
IsStaleSwap pairs fresh x i = (j q : ℕ) → StandsAt x.set i q → x.state ≢ q → StandsAt pairs j (record { state = q; set = x.state ∷ [] }) → ¬ IsMarked fresh j

-- so for each of the first n places
abbrev pub HasStaleSwaps : List Pair → List Bool → Pair → ℕ → Type 0
HasStaleSwaps pairs fresh x n = (i : ℕ) → i < n → IsStaleSwap pairs fresh x i

-- of a set of one member what is turned round was added, and of any other nothing where no split is fresh, and all that splits make where one is
abbrev pub AreSplitsAdded : Explored → List (List Price) → List Bool → Pair → List Price → List Price → Type 0
AreSplitsAdded explored rows fresh x old new =
    ((length x.set ≡ 1) × IsAdded (AffordsTurned explored rows fresh x) old new)
    ⊎ (((x.set ≢ []) × HasStaleSplits explored fresh x × (new ≡ old))
    ⊎ IsAdded (AffordsConjunction (listed_at explored.pairs rows) x) old new)

-- nothing was added to a list that reaches the floor, and to any other what splits make
abbrev pub AreSplitsAddedToFloor : Price → Explored → List (List Price) → List Bool → Pair → List Price → List Price → Type 0
AreSplitsAddedToFloor f explored rows fresh x old new = (Covers old f × (new ≡ old)) ⊎ ((¬ Covers old f) × AreSplitsAdded explored rows fresh x old new)

-- the flags say which lists generation n changed; before the first one all lists are empty, and the flags say nothing
abbrev pub AreFresh : Weighing → System → List Pair → ℕ → List Bool → Type 0
AreFresh weighing system pairs zero fresh = ⊤
AreFresh weighing system pairs (suc n) fresh = (j : ℕ) (y : Pair) → StandsAt pairs j y → ¬ IsMarked fresh j
    → generation weighing system (suc n) y.state y.set ≡ generation weighing system n y.state y.set
