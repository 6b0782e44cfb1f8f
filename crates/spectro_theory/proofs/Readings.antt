-- What a list of least prices says of notions: a notion holds where no least price is within its bound, and a smaller
-- bound holds wherever a greater one does.
use Rattle.std.proofs.Common.{ℕ, ◌≤◌, List, [], ◌∷◌, Contains, sym, subst, arith}
use Rattle.std.specs.Prelude.{Option, None, Some, ◌↔◌}
use Rattle.spectro_spec.specs.System.{System}
use Rattle.spectro_spec.specs.Weighing.{Weighing}
use Rattle.spectro_spec.specs.Price.{Price, IsAtMost}
use Rattle.spectro_spec.specs.Pricing.{price}
use Rattle.spectro_spec.specs.Notion.{Bound, IsUpTo, IsWithin, IsNoGreater, IsBelow, Holds}
use Rattle.spectro_spec.specs.LeastPrices.{AreLeastPrices}

IsUpTo-smaller : (n m : ℕ) (most : Option ℕ) → n ≤ m → IsUpTo m most → IsUpTo n most
IsUpTo-smaller n m None less within = tt
IsUpTo-smaller n m (Some most) less within = omega arith

-- a price that is at most one within the bound is within it
pub IsWithin-smaller : (e f : Price) (bound : Bound) → IsAtMost e f → IsWithin f bound → IsWithin e bound
IsWithin-smaller e f bound less within = record {
  observations = IsUpTo-smaller e.observations f.observations bound.observations less.observations within.observations;
  conjunctions = IsUpTo-smaller e.conjunctions f.conjunctions bound.conjunctions less.conjunctions within.conjunctions;
  deepest_positive = IsUpTo-smaller e.deepest_positive f.deepest_positive bound.deepest_positive less.deepest_positive within.deepest_positive;
  other_positive = IsUpTo-smaller e.other_positive f.other_positive bound.other_positive less.other_positive within.other_positive;
  deepest_negative = IsUpTo-smaller e.deepest_negative f.deepest_negative bound.deepest_negative less.deepest_negative within.deepest_negative;
  negations = IsUpTo-smaller e.negations f.negations bound.negations less.negations within.negations;
}

IsUpTo-greater : (n : ℕ) (low most : Option ℕ) → IsNoGreater low most → IsUpTo n low → IsUpTo n most
IsUpTo-greater n low None below within = tt
IsUpTo-greater n None (Some most) below within = absurd below
IsUpTo-greater n (Some low) (Some most) below within = omega arith

-- what is within a bound is within each greater one
IsWithin-greater : (e : Price) (bound other : Bound) → IsBelow bound other → IsWithin e bound → IsWithin e other
IsWithin-greater e bound other below within = record {
  observations = IsUpTo-greater e.observations bound.observations other.observations below.observations within.observations;
  conjunctions = IsUpTo-greater e.conjunctions bound.conjunctions other.conjunctions below.conjunctions within.conjunctions;
  deepest_positive = IsUpTo-greater e.deepest_positive bound.deepest_positive other.deepest_positive below.deepest_positive within.deepest_positive;
  other_positive = IsUpTo-greater e.other_positive bound.other_positive other.other_positive below.other_positive within.other_positive;
  deepest_negative = IsUpTo-greater e.deepest_negative bound.deepest_negative other.deepest_negative below.deepest_negative within.deepest_negative;
  negations = IsUpTo-greater e.negations bound.negations other.negations below.negations within.negations;
}

module _ (weighing : Weighing) (system : System) where
  -- where no least price is within the bound, no formula is that distinguishes
  Holds-none_within : (p q : ℕ) (es : List Price) (bound : Bound) → AreLeastPrices weighing system p (q ∷ []) es
      → ((e : Price) → Contains es e → ¬ IsWithin e bound) → Holds weighing bound system p q
  Holds-none_within p q es bound least none formula within d =
      let covered = least.covers formula d in
      none covered.0 covered.1 (IsWithin-smaller covered.0 (price weighing formula) bound covered.2 within)

  -- a least price is that of a formula
  not_Holds-within : (p q : ℕ) (es : List Price) (bound : Bound) (e : Price) → AreLeastPrices weighing system p (q ∷ []) es → Contains es e
      → IsWithin e bound → ¬ Holds weighing bound system p q
  not_Holds-within p q es bound e least member within holds =
      let made = least.prices e member in
      holds made.0 (subst (λ f. IsWithin f bound) (sym made.2) within) made.1

  pub Holds-smaller : (bound other : Bound) (p q : ℕ) → IsBelow bound other → Holds weighing other system p q → Holds weighing bound system p q
  Holds-smaller bound other p q below holds formula within d = holds formula (IsWithin-greater (price weighing formula) bound other below within) d

  pub Holds-iff : (p q : ℕ) (es : List Price) (bound : Bound) → AreLeastPrices weighing system p (q ∷ []) es
      → Holds weighing bound system p q ↔ ((e : Price) → Contains es e → ¬ IsWithin e bound)
  Holds-iff p q es bound least = ((λ holds e member within. not_Holds-within p q es bound e least member within holds), Holds-none_within p q es bound least)
