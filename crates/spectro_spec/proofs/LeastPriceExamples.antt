-- The least prices from a state that can step to one that can't.
use Rattle.std.proofs.Common.{◌≡◌, ◌≤◌, ◌⊎◌, inl, inr, [], ◌∷◌, refl, ap, arith, rules}
use Rattle.spectro_spec.specs.Formula.{Formula, Clauses, see, all, no_clauses, plus, minus, Satisfies, SatisfiesEach}
use Rattle.spectro_spec.specs.Price.{ComesBefore, Price}
use Rattle.spectro_spec.specs.Pricing.{price, priced_clauses, price_of_conjunction}
use Rattle.spectro_spec.specs.Notion.{Distinguishes}
use Rattle.spectro_spec.specs.LeastPrices.{Covers, AreLeastPrices}
use Rattle.spectro_spec.proofs.Members.{only_member, Contains-none}
use Rattle.spectro_spec.proofs.Pricing.{conjunctions-at_least_one}
use Rattle.spectro_spec.proofs.TruthExamples.{Distinguishes-enabled}
use Rattle.spectro_spec.proofs.Samples.{a, one_step, enabled, six}

-- true at both or at neither
abbrev IsSame : Formula → Type 0
IsSame formula = (Satisfies one_step 0 formula → Satisfies one_step 1 formula) × (Satisfies one_step 1 formula → Satisfies one_step 0 formula)

abbrev AreSame : Clauses → Type 0
AreSame clauses = (SatisfiesEach one_step 0 clauses → SatisfiesEach one_step 1 clauses) × (SatisfiesEach one_step 1 clauses → SatisfiesEach one_step 0 clauses)

abbrev Observes : Price → Type 0
Observes e = (1 ≤ e.observations) × (1 ≤ e.weighted_depth)

-- a formula that observes nothing is true at both or at neither
mutual
  observes_or_same : (formula : Formula) → Observes (price [] formula) ⊎ IsSame formula
  observes_or_same (see label formula) = inl (omega arith, omega arith)
  observes_or_same (all clauses) = each_observes_or_same clauses

  each_observes_or_same : (clauses : Clauses) → Observes (price_of_conjunction (priced_clauses [] clauses)) ⊎ AreSame clauses
  each_observes_or_same no_clauses = inr ((λ h. tt), (λ h. tt))
  each_observes_or_same (plus formula clauses) = elim (observes_or_same formula) [
    | inl h ↦ inl (omega arith, omega arith)
    | inr h ↦ elim (each_observes_or_same clauses) [
      | inl g ↦ inl (omega arith, omega arith)
      | inr g ↦ inr ((λ k. (h.0 k.0, g.0 k.1)), (λ k. (h.1 k.0, g.1 k.1)))
    ]
  ]
  each_observes_or_same (minus formula clauses) = elim (observes_or_same formula) [
    | inl h ↦ inl (omega arith, omega arith)
    | inr h ↦ elim (each_observes_or_same clauses) [
      | inl g ↦ inl (omega arith, omega arith)
      | inr g ↦ inr ((λ k. ((λ f. k.0 (h.1 f)), g.0 k.1)), (λ k. ((λ f. k.0 (h.0 f)), g.1 k.1)))
    ]
  ]

-- so each formula that distinguishes observes
covers-enabled : (formula : Formula) → Distinguishes one_step 0 (1 ∷ []) formula → Covers (six 1 1 0 0 0 0 ∷ []) (price [] formula)
covers-enabled formula d = elim (observes_or_same formula) [
  | inl h ↦ (
    six 1 1 0 0 0 0,
    (0, omega arith, refl),
    record {
      observations = h.0;
      conjunctions = conjunctions-at_least_one [] formula;
      deepest_positive = omega arith;
      other_positive = omega arith;
      deepest_negative = omega arith;
      negations = omega arith;
      weighted_depth = h.1;
    },
  )
  | inr same ↦ absurd (d.refuted 1 (0, omega arith, refl) (same.0 d.satisfied))
]

AreLeastPrices-one_step : AreLeastPrices [] one_step 0 (1 ∷ []) (six 1 1 0 0 0 0 ∷ [])
AreLeastPrices-one_step = record {
  rises = ((λ f member. absurd (Contains-none f member)), tt);
  prices = λ e member. only_member (λ f. (formula : Formula) × Distinguishes one_step 0 (1 ∷ []) formula
      × (price [] formula ≡ f)) (six 1 1 0 0 0 0) e (enabled a, Distinguishes-enabled, refl) member;
  covers = covers-enabled;
  apart = λ e f e_member f_member h. only_member (λ g. g ≡ f) (six 1 1 0 0 0 0) e
      (only_member (λ g. six 1 1 0 0 0 0 ≡ g) (six 1 1 0 0 0 0) f refl f_member) e_member;
}

-- nothing is at the same time true and false at one state
AreLeastPrices-itself : AreLeastPrices [] one_step 0 (0 ∷ []) []
AreLeastPrices-itself = record {
  rises = tt;
  prices = λ e member. absurd (Contains-none e member);
  covers = λ formula d. absurd (d.refuted 0 (0, omega arith, refl) d.satisfied);
  apart = λ e f e_member f_member h. absurd (Contains-none e e_member);
}

-- from no states at all each formula that is true distinguishes
not_AreLeastPrices-none : ¬ AreLeastPrices [] one_step 0 [] []
not_AreLeastPrices-none least =
    let covered : Covers [] (six 0 1 0 0 0 0) = least.covers (all no_clauses)
    (record { satisfied = tt; refuted = λ q member. absurd (Contains-none q member) }) in
    Contains-none covered.0 covered.1

-- a price that is not least may not stand beside a least one
not_AreLeastPrices-greater : ¬ AreLeastPrices [] one_step 0 (1 ∷ []) (six 1 1 0 0 0 0 ∷ six 1 2 0 0 0 0 ∷ [])
not_AreLeastPrices-greater least =
    let same : six 1 1 0 0 0 0 ≡ six 1 2 0 0 0 0 = least.apart _ _ (0, omega arith, refl) (1, omega arith, refl) (search rules) in
    omega (arith, ap (λ (e : Price). e.conjunctions) same)

-- each member stands for a formula
not_AreLeastPrices-lower : ¬ AreLeastPrices [] one_step 0 (1 ∷ []) (six 0 0 0 0 0 0 ∷ [])
not_AreLeastPrices-lower least =
    let made : (formula : Formula) × Distinguishes one_step 0 (1 ∷ []) formula
    × (price [] formula ≡ six 0 0 0 0 0 0) = least.prices (six 0 0 0 0 0 0) (0, omega arith, refl) in
    omega (arith, conjunctions-at_least_one [] made.0, ap (λ (e : Price). e.conjunctions) made.2)

-- and stands once
not_AreLeastPrices-repeat : ¬ AreLeastPrices [] one_step 0 (1 ∷ []) (six 1 1 0 0 0 0 ∷ six 1 1 0 0 0 0 ∷ [])
not_AreLeastPrices-repeat least =
    let h : ComesBefore (six 1 1 0 0 0 0) (six 1 1 0 0 0 0) = least.rises.0 (six 1 1 0 0 0 0) (0, omega arith, refl) in
    grind arith
