-- The clauses that a split makes of a pair, in any order.
use Rattle.std.specs.Prelude.{ℕ, ◌≡◌, ◌≢◌, ◌≤◌, ◌⊎◌, List, [], ◌∷◌, Contains}
use Rattle.spectro_spec.specs.System.{System}
use Rattle.spectro_spec.specs.Formula.{Formula, Clauses, no_clauses, plus, minus, Satisfies}
use Rattle.spectro_spec.specs.Weighing.{Weighing}
use Rattle.spectro_spec.specs.Price.{Price, IsAtMost}
use Rattle.spectro_spec.specs.Pricing.{price, priced_clauses, positive_depths, greatest}
use Rattle.spectro_spec.specs.Notion.{Distinguishes}
use Rattle.spectro_game.specs.Update.{inverse, conjoin, to_deepest, to_other, to_negative}
use Rattle.spectro_game.specs.Divisions.{IsDivided}

-- one of the positive clauses has the formula
abbrev pub HasPlus : Clauses → Formula → Type 0
HasPlus no_clauses formula = ⊥
HasPlus (plus other clauses) formula = (other ≡ formula) ⊎ HasPlus clauses formula
HasPlus (minus other clauses) formula = HasPlus clauses formula

-- one of the negative clauses has the formula
abbrev pub HasMinus : Clauses → Formula → Type 0
HasMinus no_clauses formula = ⊥
HasMinus (plus other clauses) formula = HasMinus clauses formula
HasMinus (minus other clauses) formula = (other ≡ formula) ⊎ HasMinus clauses formula

-- at most one place of the list is above n
abbrev pub IsAboveOnceAtMost : ℕ → List ℕ → Type 0
IsAboveOnceAtMost n [] = Unit {0}
IsAboveOnceAtMost n (m ∷ ms) = ((m ≤ n) × IsAboveOnceAtMost n ms) ⊎ (greatest ms ≤ n)

-- the clauses refute qs at p, each of them is true at p, and together they cost at most e
pub record IsSplitAt (weighing : Weighing) (system : System) (p : ℕ) (qs : List ℕ) (e : Price) (clauses : Clauses) : Type 0 where
  pub left : List ℕ
  pub right : List ℕ
  pub divided : IsDivided qs left right
  -- where the left part is not empty, one positive clause refutes all of it
  pub refutes_left : left ≢ [] → (formula : Formula) × HasPlus clauses formula × Distinguishes system p left formula
  -- for each state of the right part there is a positive clause that is false there, or a negative one that is true there
  pub refutes_right : (q : ℕ) → Contains right q
      → ((formula : Formula) × HasPlus clauses formula × Distinguishes system p (q ∷ []) formula)
      ⊎ ((formula : Formula) × HasMinus clauses formula × Distinguishes system q (p ∷ []) formula)
  -- what the positive clauses cost, of which at most one may be deeper than the others
  pub plus_costs : (formula : Formula) → HasPlus clauses formula
      → Satisfies system p formula × IsAtMost (inverse conjoin (inverse to_deepest (price weighing formula))) e
  pub others_cost : IsAboveOnceAtMost e.other_positive (positive_depths (priced_clauses weighing clauses))
  -- what the negative clauses cost
  pub minus_costs : (formula : Formula) → HasMinus clauses formula
      → ¬ Satisfies system p formula × IsAtMost (inverse conjoin (inverse to_other (inverse to_negative (price weighing formula)))) e
