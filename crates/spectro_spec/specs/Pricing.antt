-- The price of a formula under a weighing.
use Rattle.std.specs.Prelude.{ℕ, ◌+◌, max, min, List, [], ◌∷◌, map}
use Rattle.spectro_spec.specs.Formula.{Formula, Clauses, see, all, no_clauses, plus, minus}
use Rattle.spectro_spec.specs.Price.{Price}
use Rattle.spectro_spec.specs.Weighing.{Weighing, weight_of}

-- the greatest of the numbers, and 0 of none
abbrev pub greatest : List ℕ → ℕ
greatest [] = 0
greatest (n ∷ ns) = max n (greatest ns)

-- the second greatest, counted by place, so that two equal ones give that number; 0 of fewer than two
abbrev pub second_greatest : List ℕ → ℕ
second_greatest [] = 0
second_greatest (n ∷ ns) = max (min n (greatest ns)) (second_greatest ns)

-- the sign of a clause, and the price of its formula
pub data PricedClause : Type 0 where
  plus_price : Price → PricedClause
  minus_price : Price → PricedClause

-- what the clause costs: a negation is one more
abbrev pub price_of_clause : PricedClause → Price
price_of_clause (plus_price e) = e
price_of_clause (minus_price e) = record e { negations = e.negations + 1 }

-- how deep the formulas of the positive clauses observe
abbrev pub positive_depths : List PricedClause → List ℕ
positive_depths [] = []
positive_depths (plus_price e ∷ clauses) = e.observations ∷ positive_depths clauses
positive_depths (minus_price e ∷ clauses) = positive_depths clauses

-- how deep the formulas of the negative clauses observe
abbrev pub negative_depths : List PricedClause → List ℕ
negative_depths [] = []
negative_depths (plus_price e ∷ clauses) = negative_depths clauses
negative_depths (minus_price e ∷ clauses) = e.observations ∷ negative_depths clauses

-- the greatest of one part over what the clauses cost
abbrev pub greatest_part : (Price → ℕ) → List PricedClause → ℕ
greatest_part part clauses = greatest (map (λ clause. part (price_of_clause clause)) clauses)

-- the price of the conjunction of these clauses
abbrev pub price_of_conjunction : List PricedClause → Price
price_of_conjunction clauses = record {
  observations = greatest_part (λ e. e.observations) clauses;
  conjunctions = greatest_part (λ e. e.conjunctions) clauses + 1;
  deepest_positive = max (greatest_part (λ e. e.deepest_positive) clauses) (greatest (positive_depths clauses));
  other_positive = max (greatest_part (λ e. e.other_positive) clauses) (second_greatest (positive_depths clauses));
  deepest_negative = max (greatest_part (λ e. e.deepest_negative) clauses) (greatest (negative_depths clauses));
  negations = greatest_part (λ e. e.negations) clauses;
  weighted_depth = greatest_part (λ e. e.weighted_depth) clauses;
}

-- the price of an observation of this weight before a formula of price e
abbrev pub price_of_observation : ℕ → Price → Price
price_of_observation weight e = record e { observations = e.observations + 1; weighted_depth = e.weighted_depth + weight }

abbrev mutual
  pub price : Weighing → Formula → Price
  price weighing (see label formula) = price_of_observation (weight_of weighing label) (price weighing formula)
  price weighing (all clauses) = price_of_conjunction (priced_clauses weighing clauses)

  -- the clauses with the prices of their formulas
  pub priced_clauses : Weighing → Clauses → List PricedClause
  priced_clauses weighing no_clauses = []
  priced_clauses weighing (plus formula clauses) = plus_price (price weighing formula) ∷ priced_clauses weighing clauses
  priced_clauses weighing (minus formula clauses) = minus_price (price weighing formula) ∷ priced_clauses weighing clauses
