-- A distinguishing formula that costs at most a least price costs just that, so what is built of a move that fits a least
-- price has that price.
use Rattle.std.proofs.Common.{◌≡◌, ◌≢◌, ◌⊎◌, inl, inr, ℕ, ◌-◌, ◌≤◌, List, [], ◌∷◌, Contains, refl, subst, arith}
use Rattle.spectro_spec.specs.System.{Label, System, HasStep, post}
use Rattle.spectro_spec.specs.Formula.{Formula, Clauses, see, all, no_clauses, plus, minus, Satisfies, SatisfiesEach}
use Rattle.spectro_spec.specs.Weighing.{Weighing, weight_of}
use Rattle.spectro_spec.specs.Price.{Price, IsAtMost}
use Rattle.spectro_spec.specs.Pricing.{price, priced_clauses, second_greatest, positive_depths}
use Rattle.spectro_spec.specs.Notion.{Distinguishes}
use Rattle.spectro_spec.specs.LeastPrices.{AreLeastPrices}
use Rattle.spectro_spec.proofs.Pricing.{conjunctions-at_least_one}
use Rattle.spectro_spec.proofs.Members.{Contains-first, Contains-none}
use Rattle.spectro_game.specs.Update.{inverse, observe, conjoin, to_deepest, to_other, to_negative}
use Rattle.spectro_theory.specs.LawsOfSteps.{IsOfPrice}
use Rattle.spectro_theory.specs.Splits.{HasPlus, HasMinus, IsSplitAt}
use Rattle.spectro_theory.proofs.Conjunctions.{cost, cost-below, second_greatest-is_low}
use Rattle.spectro_theory.proofs.Satisfaction.{plus-true, minus-false}
use Rattle.spectro_theory.proofs.Divided.{Contains-divided_cases}
use Rattle.spectro_theory.proofs.PriceOrder.{IsAtMost-trans, IsAtMost-antisym}
use Rattle.spectro_spec.proofs.Successors.{post-has}

not_empty : (left : List ℕ) (q : ℕ) → Contains left q → left ≢ []
not_empty left q member none = Contains-none q (subst (λ qs. Contains qs q) none member)

-- where each positive clause is true and no negative one, all are
each-true : (system : System) (s : ℕ) (clauses : Clauses) → ((formula : Formula) → HasPlus clauses formula → Satisfies system s formula)
    → ((formula : Formula) → HasMinus clauses formula → ¬ Satisfies system s formula) → SatisfiesEach system s clauses
each-true system s no_clauses plus_true minus_false = tt
each-true system s (plus formula clauses) plus_true minus_false =
    (plus_true formula (inl refl), each-true system s clauses (λ x h. plus_true x (inr h)) minus_false)
each-true system s (minus formula clauses) plus_true minus_false =
    (minus_false formula (inl refl), each-true system s clauses plus_true (λ x h. minus_false x (inr h)))

module _ (weighing : Weighing) where
  -- clauses each of which fits e make a conjunction that costs at most e
  conjunction-le : (e : Price) → 1 ≤ e.conjunctions → (clauses : Clauses)
      → ((formula : Formula) → HasPlus clauses formula → IsAtMost (inverse conjoin (inverse to_deepest (price weighing formula))) e)
      → ((formula : Formula) → HasMinus clauses formula → IsAtMost (inverse conjoin (inverse to_other (inverse to_negative (price weighing formula)))) e)
      → second_greatest (positive_depths (priced_clauses weighing clauses)) ≤ e.other_positive
      → IsAtMost (price weighing (all clauses)) e
  conjunction-le e some clauses plus_cost minus_cost low =
      let b : Price = record e { conjunctions = e.conjunctions - 1 } in
      let below : IsAtMost (cost weighing clauses) b = cost-below weighing clauses b
      (λ formula h. let clause = plus_cost formula h in omega arith)
      (λ formula h. let clause = minus_cost formula h in omega arith)
      low in
      omega arith

module _ (weighing : Weighing) (system : System) (p : ℕ) (qs : List ℕ) (es : List Price) (least : AreLeastPrices weighing system p qs es) (e : Price)
    (member : Contains es e) where
  -- no distinguishing formula undercuts a least price
  pub price-reached : (formula : Formula) → Distinguishes system p qs formula → IsAtMost (price weighing formula) e → price weighing formula ≡ e
  price-reached formula d below =
      let low = least.covers formula d in
      let same : low.0 ≡ e = least.apart low.0 e low.1 member (IsAtMost-trans low.2 below) in
      IsAtMost-antisym (price weighing formula) e below (subst (λ f. IsAtMost f (price weighing formula)) same low.2)

  one_conjunction : 1 ≤ e.conjunctions
  one_conjunction = let made = least.prices e member in subst (λ (f : Price). 1 ≤ f.conjunctions) made.2 (conjunctions-at_least_one weighing made.0)

  -- an observation that fits has just the price
  pub observation-exact : (label : Label) (t : ℕ) (formula : Formula) → HasStep system p label t → Distinguishes system t (post system qs label) formula
      → IsAtMost (inverse (observe (weight_of weighing label)) (price weighing formula)) e → IsOfPrice weighing system p qs e (see label formula)
  observation-exact label t formula step d fits = record { distinguishes = distinguishes; paid = price-reached (see label formula) distinguishes fits }
    where
      distinguishes : Distinguishes system p qs (see label formula)
      distinguishes = record {
        satisfied = (t, step, d.satisfied);
        refuted = λ q inside true. d.refuted true.0 (post-has system qs label q true.0 inside true.1) true.2;
      }

  -- so has a split
  pub split-exact : (clauses : Clauses) → IsSplitAt weighing system p qs e clauses → IsOfPrice weighing system p qs e (all clauses)
  split-exact clauses split = record { distinguishes = distinguishes; paid = price-reached (all clauses) distinguishes below }
    where
      refuted_right : (q : ℕ)
          → ((formula : Formula) × HasPlus clauses formula × Distinguishes system p (q ∷ []) formula) ⊎
          ((formula : Formula) × HasMinus clauses formula × Distinguishes system q (p ∷ []) formula) → SatisfiesEach system q clauses → ⊥
      refuted_right q (inl clause) true = clause.2.refuted q (Contains-first q []) (plus-true system q clauses clause.0 true clause.1)
      refuted_right q (inr clause) true = minus-false system q clauses clause.0 true clause.1 clause.2.satisfied

      refuted : (q : ℕ) → Contains split.left q ⊎ Contains split.right q → SatisfiesEach system q clauses → ⊥
      refuted q (inl inside) true = let clause = split.refutes_left (not_empty split.left q inside) in clause.2.refuted q inside
          (plus-true system q clauses clause.0 true clause.1)
      refuted q (inr inside) true = refuted_right q (split.refutes_right q inside) true

      distinguishes : Distinguishes system p qs (all clauses)
      distinguishes = record {
        satisfied = each-true system p clauses (λ x h. (split.plus_costs x h).0) (λ x h. (split.minus_costs x h).0);
        refuted = λ q inside. refuted q (Contains-divided_cases split.divided q inside);
      }

      below : IsAtMost (price weighing (all clauses)) e
      below = conjunction-le weighing e one_conjunction clauses (λ x h. (split.plus_costs x h).1) (λ x h. (split.minus_costs x h).1)
          (second_greatest-is_low e.other_positive (positive_depths (priced_clauses weighing clauses)) split.others_cost)
