-- One pass over the clauses of a node.
use Rattle.std.proofs.Common.{◌≡◌, ◌∙◌, ℕ, ◌+◌, ◌<◌, ◌≤◌, Bool, true, false, cond, List, [], ◌∷◌, ◌++◌, length, map, take, get_or, ap, subst, arith}
use Rattle.std.proofs.lemmas.List.{get_or-map, map_more}
use Rattle.spectro_spec.specs.Price.{Price, IsAtMost}
use Rattle.spectro_spec.specs.Pricing.{PricedClause, plus_price, minus_price, price_of_observation, price_of_conjunction}
use Rattle.spectro_energy.specs.Energy.{price_of, prices_of}
use Rattle.spectro_energy.specs.declared.energy.Energy.{Energy}
use Rattle.spectro_hml.specs.declared.node.Clause.{Clause}
use Rattle.spectro_price.specs.NodePrices.{price_at, priced_clause, limit, AreLow}
use Rattle.spectro_price.proofs.Conjunctions.{plus-low, minus-low, none-low}

-- the energy that is read at a place has the price of that node
pub price_at-prices_of : (before : List Energy) (k : ℕ) (d : Energy) → k < length before → price_at (prices_of before) k ≡ price_of (get_or before k d).parts
price_at-prices_of before k d within = get_or-map (λ energy. price_of energy.parts) before k d (price_of_conjunction []) within

pub read-low : (n : ℕ) (before : List Energy) (k : ℕ) (d : Energy) → k < length before → AreLow n (prices_of before)
    → IsAtMost (price_of (get_or before k d).parts) (limit n)
read-low n before k d within low = subst (λ e. IsAtMost e (limit n)) (price_at-prices_of before k d within) (low k)

pub observation-low : (n weight : ℕ) (e : Price) → weight ≤ 255 → IsAtMost e (limit (n + 1)) → IsAtMost (price_of_observation weight e) (limit (n + 2))
observation-low n weight e light low = omega arith

pub conjunction-low : (n : ℕ) (prices : List Price) (clauses : List Clause) → AreLow (n + 1) prices
    → IsAtMost (price_of_conjunction (map (priced_clause prices) clauses)) (limit (n + 2))
conjunction-low n prices [] low = none-low n
conjunction-low n prices (clause ∷ clauses) low = by clause.positive (price_at prices clause.node) (low clause.node) (conjunction-low n prices clauses low)
  where
    by : (positive : Bool) (e : Price) → IsAtMost e (limit (n + 1)) → IsAtMost (price_of_conjunction (map (priced_clause prices) clauses)) (limit (n + 2))
        → IsAtMost (price_of_conjunction (cond positive (plus_price e) (minus_price e) ∷ map (priced_clause prices) clauses)) (limit (n + 2))
    by true e here there = plus-low n (map (priced_clause prices) clauses) e here there
    by false e here there = minus-low n (map (priced_clause prices) clauses) e here there

module _ (before : List Energy) (clauses : List Clause) where
  -- the first clauses, with their prices
  abbrev pub passed : ℕ → List PricedClause
  passed i = map (priced_clause (prices_of before)) (take i clauses)

  module _ (i : ℕ) (c : Clause) (d : Energy) where
    -- the clause at the place, and the price of its node
    abbrev clause : Clause
    clause = get_or clauses i c

    abbrev e : Price
    e = price_of (get_or before clause.node d).parts

    passed-more : (priced : PricedClause) → i < length clauses → priced_clause (prices_of before) clause ≡ priced → passed (i + 1) ≡ passed i ++ priced ∷ []
    passed-more priced within is = map_more (priced_clause (prices_of before)) clauses i c within ∙ ap (λ last. passed i ++ last ∷ []) is

    pub passed-plus : i < length clauses → clause.node < length before → clause.positive ≡ true → passed (i + 1) ≡ passed i ++ plus_price e ∷ []
    passed-plus within named positive = passed-more (plus_price e) within (rw positive (ap plus_price (price_at-prices_of before clause.node d named)))

    pub passed-minus : i < length clauses → clause.node < length before → clause.positive ≡ false → passed (i + 1) ≡ passed i ++ minus_price e ∷ []
    passed-minus within named negative = passed-more (minus_price e) within (rw negative (ap minus_price (price_at-prices_of before clause.node d named)))
