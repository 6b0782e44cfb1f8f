-- How the price of a conjunction compares with what its clauses cost.
use Rattle.std.proofs.Common.{ℕ, ◌≤◌, ◌≡◌, ◌⊎◌, inl, inr, arith, List, [], ◌∷◌, refl, subst}
use Rattle.std.proofs.lemmas.Bool.{cases_lt}
use Rattle.spectro_spec.specs.System.{System}
use Rattle.spectro_spec.specs.Formula.{Formula, Clauses, see, all, no_clauses, plus, minus, Satisfies, SatisfiesEach}
use Rattle.spectro_spec.specs.Weighing.{Weighing}
use Rattle.spectro_spec.specs.Price.{Price, IsAtMost}
use Rattle.spectro_spec.specs.Pricing.{greatest, second_greatest, PricedClause, positive_depths, greatest_part, price_of_conjunction, price, priced_clauses}
use Rattle.spectro_game.specs.Update.{inverse, to_deepest, to_other, to_positive, to_negative}
use Rattle.spectro_theory.specs.Splits.{HasPlus, HasMinus, IsAboveOnceAtMost}

-- what the clauses cost together, before the conjunction itself is counted
abbrev pub price_of_clauses : List PricedClause → Price
price_of_clauses clauses = record (price_of_conjunction clauses) { conjunctions = greatest_part (λ e. e.conjunctions) clauses }

pub second_greatest-le-greatest : (ns : List ℕ) → second_greatest ns ≤ greatest ns
second_greatest-le-greatest [] = omega arith
second_greatest-le-greatest (n ∷ ns) = omega (arith, second_greatest-le-greatest ns)

pub second_greatest-is_low : (n : ℕ) (ms : List ℕ) → IsAboveOnceAtMost n ms → second_greatest ms ≤ n
second_greatest-is_low n [] h = omega arith
second_greatest-is_low n (m ∷ ms) (inl h) = omega (arith, second_greatest-is_low n ms h.1)
second_greatest-is_low n (m ∷ ms) (inr h) = omega (arith, second_greatest-le-greatest ms)

module _ (weighing : Weighing) where
  -- what the clauses with their formulas cost together
  abbrev pub cost : Clauses → Price
  cost clauses = price_of_clauses (priced_clauses weighing clauses)

  -- how deep the formulas of the positive clauses observe
  abbrev pub depths : Clauses → List ℕ
  depths clauses = positive_depths (priced_clauses weighing clauses)

  mutual
    pub other_positive-le-deepest_positive : (formula : Formula) → (price weighing formula).other_positive ≤ (price weighing formula).deepest_positive
    other_positive-le-deepest_positive (see label formula) = other_positive-le-deepest_positive formula
    other_positive-le-deepest_positive (all clauses) = omega (arith, clauses_other-le-deepest clauses, second_greatest-le-greatest (depths clauses))

    clauses_other-le-deepest : (clauses : Clauses)
        → greatest_part (λ e. e.other_positive) (priced_clauses weighing clauses) ≤ greatest_part (λ e. e.deepest_positive) (priced_clauses weighing clauses)
    clauses_other-le-deepest no_clauses = omega arith
    clauses_other-le-deepest (plus formula clauses) = omega (arith, other_positive-le-deepest_positive formula, clauses_other-le-deepest clauses)
    clauses_other-le-deepest (minus formula clauses) = omega (arith, other_positive-le-deepest_positive formula, clauses_other-le-deepest clauses)

  -- a positive clause, as the one that refutes the left part
  pub plus-below : (clauses : Clauses) (formula : Formula) → HasPlus clauses formula
      → IsAtMost (inverse to_deepest (price weighing formula)) (cost clauses)
  plus-below no_clauses formula h = absurd h
  plus-below (plus other clauses) formula (inl e) = subst (λ x. IsAtMost (inverse to_deepest (price weighing x)) (cost (plus other clauses))) e (omega arith)
  plus-below (plus other clauses) formula (inr h) = omega (arith, plus-below clauses formula h)
  plus-below (minus other clauses) formula h = omega (arith, plus-below clauses formula h)

  to_negative-below : (clauses : Clauses) (formula : Formula) → HasMinus clauses formula
      → IsAtMost (inverse to_negative (price weighing formula)) (cost clauses)
  to_negative-below no_clauses formula h = absurd h
  to_negative-below (plus other clauses) formula h = omega (arith, to_negative-below clauses formula h)
  to_negative-below (minus other clauses) formula (inl e) = subst (λ x. IsAtMost (inverse to_negative (price weighing x)) (cost (minus other clauses))) e
      (omega arith)
  to_negative-below (minus other clauses) formula (inr h) = omega (arith, to_negative-below clauses formula h)

  -- a negative clause, as one that refutes a state of the right part
  pub minus-below : (clauses : Clauses) (formula : Formula) → HasMinus clauses formula
      → IsAtMost (inverse to_other (inverse to_negative (price weighing formula))) (cost clauses)
  minus-below clauses formula h = omega (arith, to_negative-below clauses formula h, other_positive-le-deepest_positive formula)

  -- a positive clause that is no deeper than the second one, likewise
  pub other-below : (clauses : Clauses) (formula : Formula) → HasPlus clauses formula
      → (price weighing formula).observations ≤ second_greatest (depths clauses)
      → IsAtMost (inverse to_other (inverse to_positive (price weighing formula))) (cost clauses)
  other-below clauses formula h low = omega (arith, plus-below clauses formula h, other_positive-le-deepest_positive formula)

  -- whatever the order of the clauses: they cost at most b where each does, and where all positive ones but one pass as others
  pub cost-below : (clauses : Clauses) (b : Price)
      → ((formula : Formula) → HasPlus clauses formula → IsAtMost (inverse to_deepest (price weighing formula)) b)
      → ((formula : Formula) → HasMinus clauses formula → IsAtMost (inverse to_other (inverse to_negative (price weighing formula))) b)
      → second_greatest (depths clauses) ≤ b.other_positive → IsAtMost (cost clauses) b
  cost-below no_clauses b of_plus of_minus low = omega arith
  cost-below (plus other clauses) b of_plus of_minus low =
      omega (arith, of_plus other (inl refl), cost-below clauses b (λ formula h. of_plus formula (inr h)) of_minus (omega arith))
  cost-below (minus other clauses) b of_plus of_minus low =
      omega (arith, of_minus other (inl refl), cost-below clauses b of_plus (λ formula h. of_minus formula (inr h)) low)

  -- the remaining clauses are some of the clauses, and the positive ones are no deeper than the second one
  pub record AreRemaining (clauses remaining : Clauses) : Type 0 where
    pub plus : (formula : Formula) → HasPlus remaining formula
        → HasPlus clauses formula × ((price weighing formula).observations ≤ second_greatest (depths clauses))
    pub minus : (formula : Formula) → HasMinus remaining formula → HasMinus clauses formula

  -- the formula is that of a deepest positive clause, and the remaining clauses are the others
  pub record IsPicked (clauses : Clauses) (formula : Formula) (remaining : Clauses) : Type 0 where
    pub is_clause : HasPlus clauses formula
    pub is_deepest : (price weighing formula).observations ≡ greatest (depths clauses)
    pub others : AreRemaining clauses remaining
    pub together : (system : System) (s : ℕ) → Satisfies system s formula → SatisfiesEach system s remaining → SatisfiesEach system s clauses

  -- no clause is positive, or a deepest positive one is picked
  abbrev pub IsPick : Clauses → Type 0
  IsPick clauses = ((formula : Formula) → HasPlus clauses formula → ⊥) ⊎ ((formula : Formula) × (remaining : Clauses) × IsPicked clauses formula remaining)

  depth-le-greatest : (clauses : Clauses) (formula : Formula) → HasPlus clauses formula
      → (price weighing formula).observations ≤ greatest (depths clauses)
  depth-le-greatest no_clauses formula h = absurd h
  depth-le-greatest (plus other clauses) formula (inl e) = subst (λ x. (price weighing x).observations ≤ greatest (depths (plus other clauses))) e (omega arith)
  depth-le-greatest (plus other clauses) formula (inr h) = omega (arith, depth-le-greatest clauses formula h)
  depth-le-greatest (minus other clauses) formula h = depth-le-greatest clauses formula h

  no_depth : (clauses : Clauses) → ((formula : Formula) → HasPlus clauses formula → ⊥) → greatest (depths clauses) ≡ 0
  no_depth no_clauses none = refl
  no_depth (plus formula _) none = absurd (none formula (inl refl))
  no_depth (minus formula clauses) none = no_depth clauses none

  pick_first : (other : Formula) (clauses : Clauses) → greatest (depths clauses) ≤ (price weighing other).observations
      → IsPicked (plus other clauses) other clauses
  pick_first other clauses low = record {
    is_clause = inl refl;
    is_deepest = omega arith;
    others = record { plus = λ formula h. (inr h, omega (arith, depth-le-greatest clauses formula h)); minus = λ formula h. h };
    together = λ system s true rest. (true, rest);
  }

  pick_later : (other : Formula) (clauses : Clauses) (formula : Formula) (remaining : Clauses) → IsPicked clauses formula remaining
      → (price weighing other).observations ≤ (price weighing formula).observations → IsPicked (plus other clauses) formula (plus other remaining)
  pick_later other clauses formula remaining picked low = record {
    is_clause = inr picked.is_clause;
    is_deepest = omega (arith, picked.is_deepest);
    others = record {
      plus = λ x h. elim h [
        | inl e ↦ (inl e, subst (λ y. (price weighing y).observations ≤ second_greatest (depths (plus other clauses))) e (omega (arith, picked.is_deepest)))
        | inr later ↦ let rest = picked.others.plus x later in (inr rest.0, omega (arith, rest.1))
      ];
      minus = picked.others.minus;
    };
    together = λ system s true rest. (rest.0, picked.together system s true rest.1);
  }

  pick_past_minus : (other : Formula) (clauses : Clauses) (formula : Formula) (remaining : Clauses) → IsPicked clauses formula remaining
      → IsPicked (minus other clauses) formula (minus other remaining)
  pick_past_minus other _ formula remaining picked = record {
    is_clause = picked.is_clause;
    is_deepest = picked.is_deepest;
    others = record {
      plus = picked.others.plus;
      minus = λ x h. elim h [ inl e ↦ inl e | inr later ↦ inr (picked.others.minus x later) ];
    };
    together = λ system s true rest. (rest.0, picked.together system s true rest.1);
  }

  pub pick : (clauses : Clauses) → IsPick clauses
  pick no_clauses = inl (λ formula h. h)
  pick (minus other clauses) = elim (pick clauses) [
    | inl none ↦ inl none
    | inr (formula, remaining, picked) ↦ inr (formula, minus other remaining, pick_past_minus other clauses formula remaining picked)
  ]
  pick (plus other clauses) = elim (pick clauses) [
    | inl none ↦ inr (other, clauses, pick_first other clauses (omega (arith, no_depth clauses none)))
    | inr (formula, remaining, picked) ↦ elim (cases_lt (price weighing formula).observations (price weighing other).observations) [
      | inl deeper ↦ inr (other, clauses, pick_first other clauses (omega (arith, picked.is_deepest)))
      | inr low ↦ inr (formula, plus other remaining, pick_later other clauses formula remaining picked low)
    ]
  ]
