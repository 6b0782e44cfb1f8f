-- Notions: a notion is a bound on prices, and holds where no formula within the bound distinguishes.
use Rattle.std.specs.Prelude.{ℕ, ◌≤◌, List, [], ◌∷◌, Contains, Option, None, Some}
use Rattle.spectro_spec.specs.System.{System}
use Rattle.spectro_spec.specs.Formula.{Formula, Satisfies}
use Rattle.spectro_spec.specs.Weighing.{Weighing}
use Rattle.spectro_spec.specs.Price.{Price}
use Rattle.spectro_spec.specs.Pricing.{price}

-- how great each part of a price may be; a part with no number has no bound, and the weighted depth never has one
pub record Bound : Type 0 where
  pub observations : Option ℕ
  pub conjunctions : Option ℕ
  pub deepest_positive : Option ℕ
  pub other_positive : Option ℕ
  pub deepest_negative : Option ℕ
  pub negations : Option ℕ

-- a name, and the bound that it stands for
pub record Notion : Type 0 where
  pub name : List ℕ
  pub bound : Bound

-- the number is at most the bound, where there is one
abbrev pub IsUpTo : ℕ → Option ℕ → Type 0
IsUpTo n None = Unit {0}
IsUpTo n (Some most) = n ≤ most

-- each part of the price is at most its bound
pub record IsWithin (e : Price) (bound : Bound) : Type 0 where
  pub observations : IsUpTo e.observations bound.observations
  pub conjunctions : IsUpTo e.conjunctions bound.conjunctions
  pub deepest_positive : IsUpTo e.deepest_positive bound.deepest_positive
  pub other_positive : IsUpTo e.other_positive bound.other_positive
  pub deepest_negative : IsUpTo e.deepest_negative bound.deepest_negative
  pub negations : IsUpTo e.negations bound.negations

-- the first number is at most the second, none being the greatest
abbrev pub IsNoGreater : Option ℕ → Option ℕ → Type 0
IsNoGreater most None = Unit {0}
IsNoGreater None (Some most) = ⊥
IsNoGreater (Some low) (Some most) = low ≤ most

-- each part of the first bound is at most that of the second, no bound being the greatest
pub record IsBelow (bound other : Bound) : Type 0 where
  pub observations : IsNoGreater bound.observations other.observations
  pub conjunctions : IsNoGreater bound.conjunctions other.conjunctions
  pub deepest_positive : IsNoGreater bound.deepest_positive other.deepest_positive
  pub other_positive : IsNoGreater bound.other_positive other.other_positive
  pub deepest_negative : IsNoGreater bound.deepest_negative other.deepest_negative
  pub negations : IsNoGreater bound.negations other.negations

-- the formula is true at p, and at none of qs
pub record Distinguishes (system : System) (p : ℕ) (qs : List ℕ) (formula : Formula) : Type 0 where
  pub satisfied : Satisfies system p formula
  pub refuted : (q : ℕ) → Contains qs q → ¬ Satisfies system q formula

-- no formula whose price is within the bound is true at p and false at q
abbrev pub Holds : Weighing → Bound → System → ℕ → ℕ → Type 0
Holds weighing bound system p q = (formula : Formula) → IsWithin (price weighing formula) bound → ¬ Distinguishes system p (q ∷ []) formula
