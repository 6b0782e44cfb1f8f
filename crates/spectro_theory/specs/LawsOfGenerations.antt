-- Laws of the generations, on pairs that have with each its followers.
use Rattle.std.specs.Prelude.{ℕ, zero, suc, ◌≡◌, ◌≢◌, ◌<◌, ◌≤◌, ◌*◌, ◌↔◌, List, [], length, Contains, false, true}
use Rattle.spectro_spec.specs.System.{Label, System, HasStep}
use Rattle.spectro_spec.specs.Weighing.{Weighing, IsWeighing, weight_of}
use Rattle.spectro_spec.specs.Price.{Price, IsAtMost}
use Rattle.spectro_spec.specs.LeastPrices.{Covers, AreLeastPrices}
use Rattle.spectro_game.specs.Pairs.{Pair, IsFollower, IsClosed, IsOneOf}
use Rattle.spectro_game.specs.Reached.{StandsAt}
use Rattle.spectro_game.specs.BackwardStep.{Affords}
use Rattle.spectro_game.specs.Generations.{members_of, generation}
use Rattle.spectro_game.specs.Rows.{listed_at, next_rows, generation_rows, IsSolved}
use Rattle.spectro_game.specs.Marks.{is_marked}

-- the attacker wins with e in at most so many rounds
unfoldable pub IsWonWithin : Weighing → System → ℕ → ℕ → List ℕ → Price → Type 0
IsWonWithin weighing system zero p qs e = ⊥
IsWonWithin weighing system (suc k) p qs e = Affords weighing system (IsWonWithin weighing system k) p qs e

-- what is won in at most k rounds is just what generation k covers
abbrev pub RoundsAreGenerations : Type 0
RoundsAreGenerations =
    (weighing : Weighing) (system : System) (k p : ℕ) (qs : List ℕ) (e : Price)
    → IsWonWithin weighing system k p qs e ↔ Covers (generation weighing system k p qs) e

-- the backward step of the rows of generation k has those of generation k + 1
abbrev pub NextRowsAreGenerations : Type 0
NextRowsAreGenerations =
    (weighing : Weighing) (system : System) (pairs : List Pair) → IsClosed system (IsOneOf pairs)
    → (k : ℕ) → next_rows weighing system pairs (generation_rows weighing system pairs k) ≡ generation_rows weighing system pairs (suc k)

-- a pair has the row that stands at its first place
abbrev pub RowsAreByPlace : Type 0
RowsAreByPlace =
    (pairs : List Pair) (rows : List (List Price)) (i p : ℕ) (qs : List ℕ) (es : List Price)
    → ((j : ℕ) → j < i → ¬ StandsAt pairs j (record { state = p; set = qs })) → StandsAt pairs i (record { state = p; set = qs }) → StandsAt rows i es
    → listed_at pairs rows p qs ≡ es

-- a pair has in the rows its list of the generation
abbrev pub RowsListTheGeneration : Type 0
RowsListTheGeneration =
    (weighing : Weighing) (system : System) (pairs : List Pair) (k p : ℕ) (qs : List ℕ) → IsOneOf pairs p qs
    → listed_at pairs (generation_rows weighing system pairs k) p qs ≡ generation weighing system k p qs

-- from as many generations on as there are pairs, the next one changes nothing
abbrev pub LateGenerationsStay : Type 0
LateGenerationsStay =
    (weighing : Weighing) (system : System) (pairs : List Pair) → IsClosed system (IsOneOf pairs)
    → (k p : ℕ) (qs : List ℕ) → length pairs ≤ k → IsOneOf pairs p qs → generation weighing system (suc k) p qs ≡ generation weighing system k p qs

-- a generation that the next one leaves as it is has just the least prices
abbrev pub SettledGenerationsAreExact : Type 0
SettledGenerationsAreExact =
    (weighing : Weighing) (system : System) (pairs : List Pair) → IsClosed system (IsOneOf pairs)
    → (k : ℕ) → ((p : ℕ) (qs : List ℕ) → IsOneOf pairs p qs → generation weighing system (suc k) p qs ≡ generation weighing system k p qs)
    → (p : ℕ) (qs : List ℕ) → IsOneOf pairs p qs → AreLeastPrices weighing system p qs (generation weighing system k p qs)

-- so has each from as many on as there are pairs
abbrev pub LateGenerationsAreExact : Type 0
LateGenerationsAreExact =
    (weighing : Weighing) (system : System) (pairs : List Pair) → IsClosed system (IsOneOf pairs)
    → (k p : ℕ) (qs : List ℕ) → length pairs ≤ k → IsOneOf pairs p qs → AreLeastPrices weighing system p qs (generation weighing system k p qs)

-- each part is at most k, and the weighted depth at most 255 times k
pub record ArePartsUpTo (k : ℕ) (e : Price) : Type 0 where
  pub observations : e.observations ≤ k
  pub conjunctions : e.conjunctions ≤ k
  pub deepest_positive : e.deepest_positive ≤ k
  pub other_positive : e.other_positive ≤ k
  pub deepest_negative : e.deepest_negative ≤ k
  pub negations : e.negations ≤ k
  pub weighted_depth : e.weighted_depth ≤ 255 * k

abbrev pub PartsAreLow : Type 0
PartsAreLow =
    (weighing : Weighing) (system : System) → IsWeighing weighing
    → (k p : ℕ) (qs : List ℕ) (e : Price) → Contains (generation weighing system k p qs) e → ArePartsUpTo k e

-- generation k + 1 changed the list of a follower
abbrev pub HasChangedFollower : Weighing → System → ℕ → Pair → Type 0
HasChangedFollower weighing system k x =
    (p : ℕ) × (qs : List ℕ) × IsFollower system x.state x.set p qs × (generation weighing system (suc k) p qs ≢ generation weighing system k p qs)

-- the generation after k + 1 evaluates just the pairs with such a follower
abbrev pub MarksAreByChange : Type 0
MarksAreByChange = (weighing : Weighing) (system : System) (k : ℕ) (x : Pair)
    → is_marked weighing system (suc k) x ≡ true ↔ HasChangedFollower weighing system k x

-- a pair that the generation after k does not evaluate keeps its list
abbrev pub UnmarkedPairsKeepTheirLists : Type 0
UnmarkedPairsKeepTheirLists =
    (weighing : Weighing) (system : System) (k : ℕ) (x : Pair) → is_marked weighing system k x ≡ false
    → generation weighing system (suc k) x.state x.set ≡ generation weighing system k x.state x.set

-- solved rows afford each price that they list, so a listed price has an observation or a split that fits it
abbrev pub SolvedRowsAffordTheirPrices : Type 0
SolvedRowsAffordTheirPrices =
    (weighing : Weighing) (system : System) (pairs : List Pair) (rows : List (List Price)) → IsClosed system (IsOneOf pairs)
    → IsSolved weighing system pairs rows
    → (p : ℕ) (qs : List ℕ) (e : Price) → IsOneOf pairs p qs → Contains (listed_at pairs rows p qs) e
    → Affords weighing system (members_of (listed_at pairs rows)) p qs e

-- one observation of this weight, in one conjunction
abbrev pub floor_price : ℕ → Price
floor_price least = record {
  observations = 1;
  conjunctions = 1;
  deepest_positive = 0;
  other_positive = 0;
  deepest_negative = 0;
  negations = 0;
  weighted_depth = least;
}

-- no step is under a label that weighs less
abbrev pub NoStepWeighsLess : Weighing → System → ℕ → Type 0
NoStepWeighsLess weighing system least = (s t : ℕ) (label : Label) → HasStep system s label t → least ≤ weight_of weighing label

-- where no step weighs less, what a generation affords has a conjunction, and to tell a state from some others costs at least the floor
abbrev pub PricesStandOnAFloor : Type 0
PricesStandOnAFloor =
    (weighing : Weighing) (system : System) (least : ℕ) → NoStepWeighsLess weighing system least
    → (k p : ℕ) (qs : List ℕ) (e : Price) → Affords weighing system (members_of (generation weighing system k)) p qs e
    → (1 ≤ e.conjunctions) × (qs ≢ [] → IsAtMost (floor_price least) e)
