-- What the clauses of a conjunction cost, clause by clause.
use Rattle.std.proofs.Common.{◌≡◌, ◌∙◌, ℕ, max, min, ◌+◌, List, [], ◌∷◌, ◌++◌, refl, sym, ap, arith}
use Rattle.spectro_spec.specs.Price.{Price, IsAtMost, parts}
use Rattle.spectro_spec.specs.Pricing.{greatest, second_greatest, PricedClause, plus_price, minus_price, price_of_clause, positive_depths, negative_depths, greatest_part, price_of_conjunction}
use Rattle.spectro_game.specs.Sup.{sup}
use Rattle.spectro_game.specs.Update.{inverse, conjoin, to_negative}
use Rattle.spectro_energy.specs.Energy.{price_of}
use Rattle.spectro_price.specs.NodePrices.{limit}

-- ---- one number more at the end
greatest-push : (ns : List ℕ) (n : ℕ) → greatest (ns ++ n ∷ []) ≡ max (greatest ns) n
greatest-push [] n = omega arith
greatest-push (m ∷ ns) n = omega (arith, greatest-push ns n)

second_greatest-push : (ns : List ℕ) (n : ℕ) → second_greatest (ns ++ n ∷ []) ≡ max (second_greatest ns) (min n (greatest ns))
second_greatest-push [] n = omega arith
second_greatest-push (m ∷ ns) n = omega (arith, greatest-push ns n, second_greatest-push ns n)

-- ---- one clause more at the end
greatest_part-push : (part : Price → ℕ) (clauses : List PricedClause) (clause : PricedClause)
    → greatest_part part (clauses ++ clause ∷ []) ≡ max (greatest_part part clauses) (part (price_of_clause clause))
greatest_part-push part [] clause = omega arith
greatest_part-push part (first ∷ clauses) clause = omega (arith, greatest_part-push part clauses clause)

positive_depths-plus : (clauses : List PricedClause) (e : Price)
    → positive_depths (clauses ++ plus_price e ∷ []) ≡ positive_depths clauses ++ e.observations ∷ []
positive_depths-plus [] e = refl
positive_depths-plus (plus_price f ∷ clauses) e = ap (λ ns. f.observations ∷ ns) (positive_depths-plus clauses e)
positive_depths-plus (minus_price f ∷ clauses) e = positive_depths-plus clauses e

positive_depths-minus : (clauses : List PricedClause) (e : Price) → positive_depths (clauses ++ minus_price e ∷ []) ≡ positive_depths clauses
positive_depths-minus [] e = refl
positive_depths-minus (plus_price f ∷ clauses) e = ap (λ ns. f.observations ∷ ns) (positive_depths-minus clauses e)
positive_depths-minus (minus_price f ∷ clauses) e = positive_depths-minus clauses e

negative_depths-plus : (clauses : List PricedClause) (e : Price) → negative_depths (clauses ++ plus_price e ∷ []) ≡ negative_depths clauses
negative_depths-plus [] e = refl
negative_depths-plus (plus_price f ∷ clauses) e = negative_depths-plus clauses e
negative_depths-plus (minus_price f ∷ clauses) e = ap (λ ns. f.observations ∷ ns) (negative_depths-plus clauses e)

negative_depths-minus : (clauses : List PricedClause) (e : Price)
    → negative_depths (clauses ++ minus_price e ∷ []) ≡ negative_depths clauses ++ e.observations ∷ []
negative_depths-minus [] e = refl
negative_depths-minus (plus_price f ∷ clauses) e = negative_depths-minus clauses e
negative_depths-minus (minus_price f ∷ clauses) e = ap (λ ns. f.observations ∷ ns) (negative_depths-minus clauses e)

-- ---- what the clauses cost, without their depths in places of their own
abbrev pub cost_of : List PricedClause → Price
cost_of clauses = record {
  observations = greatest_part (λ e. e.observations) clauses;
  conjunctions = greatest_part (λ e. e.conjunctions) clauses;
  deepest_positive = greatest_part (λ e. e.deepest_positive) clauses;
  other_positive = greatest_part (λ e. e.other_positive) clauses;
  deepest_negative = max (greatest_part (λ e. e.deepest_negative) clauses) (greatest (negative_depths clauses));
  negations = greatest_part (λ e. e.negations) clauses;
  weighted_depth = greatest_part (λ e. e.weighted_depth) clauses;
}

same_price : (e f : Price)
    → e.observations ≡ f.observations → e.conjunctions ≡ f.conjunctions → e.deepest_positive ≡ f.deepest_positive → e.other_positive ≡ f.other_positive
    → e.deepest_negative ≡ f.deepest_negative → e.negations ≡ f.negations → e.weighted_depth ≡ f.weighted_depth → e ≡ f
same_price e f a b c d g h i = let same : parts e ≡ parts f = cc in ap price_of same

cost_of-plus : (clauses : List PricedClause) (e : Price) → cost_of (clauses ++ plus_price e ∷ []) ≡ sup (cost_of clauses) e
cost_of-plus clauses e =
    same_price _ _ (greatest_part-push (λ f. f.observations) clauses (plus_price e)) (greatest_part-push (λ f. f.conjunctions) clauses (plus_price e))
    (greatest_part-push (λ f. f.deepest_positive) clauses (plus_price e)) (greatest_part-push (λ f. f.other_positive) clauses (plus_price e))
    (rw (negative_depths-plus clauses e) (omega (arith, greatest_part-push (λ f. f.deepest_negative) clauses (plus_price e))))
    (greatest_part-push (λ f. f.negations) clauses (plus_price e)) (greatest_part-push (λ f. f.weighted_depth) clauses (plus_price e))

cost_of-minus : (clauses : List PricedClause) (e : Price) → cost_of (clauses ++ minus_price e ∷ []) ≡ sup (cost_of clauses) (inverse to_negative e)
cost_of-minus clauses e =
    same_price _ _ (greatest_part-push (λ f. f.observations) clauses (minus_price e)) (greatest_part-push (λ f. f.conjunctions) clauses (minus_price e))
    (greatest_part-push (λ f. f.deepest_positive) clauses (minus_price e)) (greatest_part-push (λ f. f.other_positive) clauses (minus_price e))
    (rw (negative_depths-minus clauses e)
    (omega (arith, greatest_part-push (λ f. f.deepest_negative) clauses (minus_price e), greatest-push (negative_depths clauses) e.observations)))
    (greatest_part-push (λ f. f.negations) clauses (minus_price e)) (greatest_part-push (λ f. f.weighted_depth) clauses (minus_price e))

-- where so many clauses were looked at: what they cost, and the two greatest depths of positive ones
pub record IsCost (clauses : List PricedClause) (cost : Price) (deepest other : ℕ) : Type 0 where
  pub costs : cost ≡ cost_of clauses
  pub first : deepest ≡ greatest (positive_depths clauses)
  pub second : other ≡ second_greatest (positive_depths clauses)

pub IsCost-plus : (clauses more : List PricedClause) (cost cost' : Price) (deepest deepest' other other' : ℕ) (e : Price) → IsCost clauses cost deepest other
    → more ≡ clauses ++ plus_price e ∷ [] → cost' ≡ sup cost e → deepest' ≡ max deepest e.observations → other' ≡ max other (min e.observations deepest)
    → IsCost more cost' deepest' other'
IsCost-plus clauses more cost cost' deepest deepest' other other' e so_far one_more costs first second =
    rw one_more
    (record {
      costs = rw (costs, so_far.costs) (sym (cost_of-plus clauses e));
      first = rw (positive_depths-plus clauses e, first, so_far.first) (sym (greatest-push (positive_depths clauses) e.observations));
      second = rw (positive_depths-plus clauses e, second, so_far.first, so_far.second) (sym (second_greatest-push (positive_depths clauses) e.observations));
    })

pub IsCost-minus : (clauses more : List PricedClause) (cost cost' : Price) (deepest deepest' other other' : ℕ) (e : Price) → IsCost clauses cost deepest other
    → more ≡ clauses ++ minus_price e ∷ [] → cost' ≡ sup cost (inverse to_negative e) → deepest' ≡ deepest → other' ≡ other → IsCost more cost' deepest' other'
IsCost-minus clauses more cost cost' deepest deepest' other other' e so_far one_more costs first second =
    rw one_more
    (record {
      costs = rw (costs, so_far.costs) (sym (cost_of-minus clauses e));
      first = rw (positive_depths-minus clauses e) (first ∙ so_far.first);
      second = rw (positive_depths-minus clauses e) (second ∙ so_far.second);
    })

-- all clauses were looked at
pub price_of_conjunction-from_cost : (clauses : List PricedClause) (cost : Price) (deepest other : ℕ) → IsCost clauses cost deepest other
    → inverse conjoin (sup cost (price_of (0 ∷ 0 ∷ deepest ∷ other ∷ 0 ∷ 0 ∷ 0 ∷ []))) ≡ price_of_conjunction clauses
price_of_conjunction-from_cost clauses cost deepest other so_far =
    rw (so_far.costs, so_far.first, so_far.second) (same_price _ _ (omega arith) (omega arith) refl refl (omega arith) (omega arith) (omega arith))

-- ---- a conjunction costs little where its clauses do
pub plus-low : (n : ℕ) (clauses : List PricedClause) (e : Price) → IsAtMost e (limit (n + 1)) → IsAtMost (price_of_conjunction clauses) (limit (n + 2))
    → IsAtMost (price_of_conjunction (plus_price e ∷ clauses)) (limit (n + 2))
plus-low n clauses e here there = omega arith

pub minus-low : (n : ℕ) (clauses : List PricedClause) (e : Price) → IsAtMost e (limit (n + 1)) → IsAtMost (price_of_conjunction clauses) (limit (n + 2))
    → IsAtMost (price_of_conjunction (minus_price e ∷ clauses)) (limit (n + 2))
minus-low n clauses e here there = omega arith

pub none-low : (n : ℕ) → IsAtMost (price_of_conjunction []) (limit (n + 2))
none-low n = omega arith
