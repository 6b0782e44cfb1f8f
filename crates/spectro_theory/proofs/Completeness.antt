-- A listing that covers its own backward step at closed pairs covers the price of each distinguishing formula.
-- By induction on the formula: an observation is a step, and the clauses of a conjunction make a split,
-- whose left part is what a deepest positive clause refutes.
use Rattle.std.proofs.Common.{ℕ, ◌≡◌, ◌≢◌, ◌⊎◌, inl, inr, List, [], ◌∷◌, refl, sym, subst, Contains, arith}
use Rattle.spectro_spec.specs.System.{Label, System, HasStep, post}
use Rattle.spectro_spec.specs.Formula.{Formula, Clauses, see, all, no_clauses, plus, minus, Satisfies, SatisfiesEach}
use Rattle.spectro_spec.specs.Weighing.{Weighing, weight_of}
use Rattle.spectro_spec.specs.Pricing.{price}
use Rattle.spectro_spec.specs.Notion.{Distinguishes}
use Rattle.spectro_spec.proofs.Members.{only_member}
use Rattle.spectro_game.specs.Update.{observe}
use Rattle.spectro_game.specs.BackwardStep.{Listing, ListsAtMost, AffordsClause, AffordsSplit, CoversItsStep}
use Rattle.spectro_theory.proofs.Divided.{IsDivided-all_right, divided_at, Contains-right, divided_by}
use Rattle.spectro_spec.proofs.Successors.{Contains-post}
use Rattle.spectro_theory.proofs.Closures.{IsClosedByCases}
use Rattle.spectro_theory.proofs.PriceOrder.{inverse-monotone}
use Rattle.spectro_theory.specs.Splits.{HasPlus, HasMinus}
use Rattle.spectro_theory.proofs.Conjunctions.{cost, plus-below, minus-below, other-below, AreRemaining, IsPick, pick}
use Rattle.spectro_theory.proofs.Satisfaction.{decide, Fails, failing, plus-true, minus-false}

Distinguishes-one : (system : System) (p q : ℕ) (formula : Formula) → Satisfies system p formula → ¬ Satisfies system q formula
    → Distinguishes system p (q ∷ []) formula
Distinguishes-one system p q formula holds untrue = record {
  satisfied = holds;
  refuted = λ s member. only_member (λ x. ¬ Satisfies system x formula) q s untrue member;
}

-- what distinguishes before a step distinguishes after it
pub Distinguishes-after : (system : System) (p : ℕ) (qs : List ℕ) (label : Label) (formula : Formula) → Distinguishes system p qs (see label formula)
    → (t : ℕ) × HasStep system p label t × Distinguishes system t (post system qs label) formula
Distinguishes-after system p qs label formula d =
    let (t, step, holds) = d.satisfied in (
      t,
      step,
      record {
        satisfied = holds;
        refuted = λ r member true_at_r. let from = Contains-post system qs label r member in d.refuted from.0 from.1 (r, from.2, true_at_r);
      },
    )

module _ (weighing : Weighing) (system : System) (known : ℕ → List ℕ → Type 0) (listing : Listing) (closed : IsClosedByCases system known) where
  -- wherever the formula distinguishes a known pair, its price is covered
  abbrev pub IsCovered : Formula → Type 0
  IsCovered formula = (p : ℕ) (qs : List ℕ) → known p qs → Distinguishes system p qs formula → ListsAtMost listing p qs (price weighing formula)

  -- likewise for the formula of each clause
  abbrev pub AreCovered : Clauses → Type 0
  AreCovered clauses = ((formula : Formula) → HasPlus clauses formula → IsCovered formula)
      × ((formula : Formula) → HasMinus clauses formula → IsCovered formula)

  -- a clause is afforded for each state at which one of the remaining clauses fails
  affords_clause : (clauses remaining : Clauses) → AreCovered clauses → AreRemaining weighing clauses remaining
      → (p : ℕ) (qs : List ℕ) → known p qs → SatisfiesEach system p clauses
      → (q : ℕ) → Contains qs q → Fails system q remaining → AffordsClause listing p q (cost weighing clauses)
  affords_clause clauses remaining covered others p qs in_known holds q member (inl (formula, h, untrue)) =
      let clause = others.plus formula h in
      let one = divided_at qs q member in
      let listed = covered.0 formula clause.0 p (q ∷ []) (closed.subset p qs (q ∷ []) one.0 in_known (λ e. cc) one.1)
      (Distinguishes-one system p q formula (plus-true system p clauses formula holds clause.0) untrue) in
      inl (listed.0, listed.1, omega (arith, listed.2, other-below weighing clauses formula clause.0 clause.1))
  affords_clause clauses remaining covered others p qs in_known holds q member (inr (formula, h, true_at_q)) =
      let clause = others.minus formula h in
      let untrue : ¬ Satisfies system p formula = minus-false system p clauses formula holds clause in
      let apart : p ≢ q = λ e. untrue (subst (λ x. Satisfies system x formula) (sym e) true_at_q) in
      let listed = covered.1 formula clause q (p ∷ []) (closed.swapped p qs q in_known member apart) (Distinguishes-one system q p formula true_at_q untrue) in
      inr (apart, (listed.0, listed.1, omega (arith, listed.2, minus-below weighing clauses formula clause)))

  split_by_pick : (clauses : Clauses) → AreCovered clauses → (p : ℕ) (qs : List ℕ) → known p qs → SatisfiesEach system p clauses
      → ((q : ℕ) → Contains qs q → ¬ SatisfiesEach system q clauses) → IsPick weighing clauses → AffordsSplit listing p qs (cost weighing clauses)
  split_by_pick clauses covered p qs in_known holds untrue (inl none) = (
    [],
    qs,
    IsDivided-all_right qs,
    (λ filled. absurd (filled refl)),
    λ q member. affords_clause clauses clauses covered
        (record { plus = λ formula h. absurd (none formula h); minus = λ formula h. h }) p qs in_known holds q member
        (failing system q clauses (untrue q member)),
  )
  split_by_pick clauses covered p qs in_known holds untrue (inr (formula, remaining, picked)) =
      let (left, right, by) = divided_by (λ q. Satisfies system q formula) (λ q. decide system q formula) qs in (
        left,
        right,
        by.divided,
        (λ filled. let listed = covered.0 formula picked.is_clause p left (closed.subset p qs left right in_known filled by.divided)
            (record { satisfied = plus-true system p clauses formula holds picked.is_clause; refuted = by.untrue }) in
            (listed.0, listed.1, omega (arith, listed.2, plus-below weighing clauses formula picked.is_clause))),
        λ q member. let here = Contains-right by.divided q member in
            affords_clause clauses remaining covered picked.others p qs in_known holds q here
            (failing system q remaining (λ rest. untrue q here (picked.together system q (by.holds q member) rest))),
      )

  -- where the formula of each clause is covered, a true conjunction that fails at each of the set affords a split
  pub split : (clauses : Clauses) → AreCovered clauses → (p : ℕ) (qs : List ℕ) → known p qs → SatisfiesEach system p clauses
      → ((q : ℕ) → Contains qs q → ¬ SatisfiesEach system q clauses) → AffordsSplit listing p qs (cost weighing clauses)
  split clauses covered p qs in_known holds untrue = split_by_pick clauses covered p qs in_known holds untrue (pick weighing clauses)

  module _ (covers : CoversItsStep weighing system known listing) where
    IsCovered-see : (label : Label) (formula : Formula) → IsCovered formula → IsCovered (see label formula)
    IsCovered-see label formula covered p qs in_known d =
        let (t, step, after) = Distinguishes-after system p qs label formula d in
        let listed = covered t (post system qs label) (closed.observed p qs label t in_known step) after in
        covers p qs (price weighing (see label formula)) in_known
        (inl (label, t, step, (listed.0, listed.1, inverse-monotone (observe (weight_of weighing label)) listed.0 (price weighing formula) listed.2)))

    IsCovered-all : (clauses : Clauses) → AreCovered clauses → IsCovered (all clauses)
    IsCovered-all clauses covered p qs in_known d =
        covers p qs (price weighing (all clauses)) in_known
        (inr (cost weighing clauses, split clauses covered p qs in_known d.satisfied d.refuted, omega arith))

    IsCovered-more : (other : Formula) (has : Formula → Type 0) → IsCovered other → ((formula : Formula) → has formula → IsCovered formula)
        → (formula : Formula) → (other ≡ formula) ⊎ has formula → IsCovered formula
    IsCovered-more other has here rest formula (inl e) = subst IsCovered e here
    IsCovered-more other has here rest formula (inr h) = rest formula h

    mutual
      pub complete : (formula : Formula) → IsCovered formula
      complete (see label formula) = IsCovered-see label formula (complete formula)
      complete (all clauses) = IsCovered-all clauses (complete_each clauses)

      complete_each : (clauses : Clauses) → AreCovered clauses
      complete_each no_clauses = ((λ formula h. absurd h), (λ formula h. absurd h))
      complete_each (plus formula clauses) = let rest = complete_each clauses in (IsCovered-more formula (HasPlus clauses) (complete formula) rest.0, rest.1)
      complete_each (minus formula clauses) = let rest = complete_each clauses in (rest.0, IsCovered-more formula (HasMinus clauses) (complete formula) rest.1)
