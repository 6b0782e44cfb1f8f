-- Laws of the backward step, over every table.
use Rattle.std.specs.Prelude.{ℕ, ◌≡◌, ◌↔◌, List, Contains}
use Rattle.spectro_spec.specs.System.{Label, System, HasStep, post}
use Rattle.spectro_spec.specs.Formula.{Formula, Clauses, see, all}
use Rattle.spectro_spec.specs.Weighing.{Weighing, weight_of}
use Rattle.spectro_spec.specs.Price.{Price, IsAtMost}
use Rattle.spectro_spec.specs.Pricing.{price}
use Rattle.spectro_spec.specs.Notion.{Distinguishes}
use Rattle.spectro_spec.specs.LeastPrices.{Covers, Rises, AreApart, AreLeastPrices}
use Rattle.spectro_game.specs.Update.{inverse, observe}
use Rattle.spectro_game.specs.Pairs.{Pair, IsFollower, IsClosed, IsOneOf}
use Rattle.spectro_game.specs.BackwardStep.{AttackerWins, Affords, CoversItsStep}
use Rattle.spectro_game.specs.Generations.{Table, members_of, backward_step}
use Rattle.spectro_theory.specs.Splits.{IsSplitAt}

-- the list of the backward step covers just what the table affords
abbrev pub BackwardStepsCoverWhatIsAfforded : Type 0
BackwardStepsCoverWhatIsAfforded =
    (weighing : Weighing) (system : System) (table : Table) (p : ℕ) (qs : List ℕ) (e : Price)
    → Covers (backward_step weighing system table p qs) e ↔ Affords weighing system (members_of table) p qs e

-- where two tables have the same lists at the followers of a pair, their backward steps have the same list there
abbrev pub BackwardStepsReadTheFollowers : Type 0
BackwardStepsReadTheFollowers =
    (weighing : Weighing) (system : System) (table other : Table) (p : ℕ) (qs : List ℕ)
    → ((p' : ℕ) (qs' : List ℕ) → IsFollower system p qs p' qs' → table p' qs' ≡ other p' qs')
    → backward_step weighing system table p qs ≡ backward_step weighing system other p qs

-- each price of the table is at least that of a formula that distinguishes
abbrev pub IsSound : Weighing → System → Table → Type 0
IsSound weighing system table = (p : ℕ) (qs : List ℕ) (e : Price) → Contains (table p qs) e → AttackerWins weighing system p qs e

abbrev pub BackwardStepsAreSound : Type 0
BackwardStepsAreSound = (weighing : Weighing) (system : System) (table : Table) → IsSound weighing system table
    → IsSound weighing system (backward_step weighing system table)

-- what is won is afforded over what is won, and the other way
abbrev pub WinsAreAfforded : Type 0
WinsAreAfforded =
    (weighing : Weighing) (system : System) (p : ℕ) (qs : List ℕ) (e : Price)
    → AttackerWins weighing system p qs e ↔ Affords weighing system (AttackerWins weighing system) p qs e

-- with each of the pairs its followers are among them, and at each the table covers what its own backward step makes
pub record IsSelfCovering (weighing : Weighing) (system : System) (pairs : List Pair) (table : Table) : Type 0 where
  pub closed : IsClosed system (IsOneOf pairs)
  pub covers : CoversItsStep weighing system (IsOneOf pairs) (members_of table)

-- a table that covers its own backward step covers the price of each formula that distinguishes
abbrev pub SelfCoveringTablesAreComplete : Type 0
SelfCoveringTablesAreComplete =
    (weighing : Weighing) (system : System) (pairs : List Pair) (table : Table) → IsSelfCovering weighing system pairs table → (p : ℕ) (qs : List ℕ)
    → IsOneOf pairs p qs
    → (formula : Formula) → Distinguishes system p qs formula → Covers (table p qs) (price weighing formula)

-- so where its list at a pair rises, is apart and has the prices of such formulas alone, that is the list of least prices
abbrev pub SelfCoveringTablesAreExact : Type 0
SelfCoveringTablesAreExact =
    (weighing : Weighing) (system : System) (pairs : List Pair) (table : Table) → IsSelfCovering weighing system pairs table → (p : ℕ) (qs : List ℕ)
    → IsOneOf pairs p qs
    → Rises (table p qs) → AreApart (table p qs)
    → ((e : Price) → Contains (table p qs) e → (formula : Formula) × Distinguishes system p qs formula × (price weighing formula ≡ e))
    → AreLeastPrices weighing system p qs (table p qs)

-- the formula distinguishes the state from the set, and e is its price
pub record IsOfPrice (weighing : Weighing) (system : System) (p : ℕ) (qs : List ℕ) (e : Price) (formula : Formula) : Type 0 where
  pub distinguishes : Distinguishes system p qs formula
  pub paid : price weighing formula ≡ e

-- an observation that fits a least price has just that price
abbrev pub ObservationsAreExact : Type 0
ObservationsAreExact =
    (weighing : Weighing) (system : System) (p : ℕ) (qs : List ℕ) (es : List Price) → AreLeastPrices weighing system p qs es → (e : Price) → Contains es e
    → (label : Label) (t : ℕ) (formula : Formula) → HasStep system p label t → Distinguishes system t (post system qs label) formula
    → IsAtMost (inverse (observe (weight_of weighing label)) (price weighing formula)) e → IsOfPrice weighing system p qs e (see label formula)

-- so has a split
abbrev pub SplitsAreExact : Type 0
SplitsAreExact =
    (weighing : Weighing) (system : System) (p : ℕ) (qs : List ℕ) (es : List Price) → AreLeastPrices weighing system p qs es → (e : Price) → Contains es e
    → (clauses : Clauses) → IsSplitAt weighing system p qs e clauses → IsOfPrice weighing system p qs e (all clauses)
