-- The price of a node from the prices of the nodes before it.
use Rattle.std.specs.Prelude.{ℕ, ◌*◌, List, [], map, slice_index_or, if◌then◌else◌}
use Rattle.spectro_spec.specs.Price.{Price, IsAtMost}
use Rattle.spectro_spec.specs.Pricing.{PricedClause, plus_price, minus_price, price_of_observation, price_of_conjunction}
use Rattle.spectro_spec.specs.Weighing.{Weighing, weight_of}
use Rattle.spectro_hml.specs.Sheets.{SheetNode, see_node, all_node}
use Rattle.spectro_hml.specs.declared.node.Clause.{Clause}

-- the price of the node of this number
abbrev pub price_at : List Price → ℕ → Price
price_at prices k = slice_index_or prices k (price_of_conjunction [])

-- the sign of the clause with the price of its node
abbrev pub priced_clause : List Price → Clause → PricedClause
priced_clause prices clause = if clause.positive then plus_price (price_at prices clause.node) else minus_price (price_at prices clause.node)

-- the price of a node, where these are the prices of those before it
abbrev pub price_of_node : Weighing → List Price → SheetNode → Price
price_of_node weighing prices (see_node label next) = price_of_observation (weight_of weighing label) (price_at prices next)
price_of_node weighing prices (all_node clauses) = price_of_conjunction (map (priced_clause prices) clauses)

-- n in each part, and 255 times that as the weighted depth
abbrev pub limit : ℕ → Price
limit n = record {
  observations = n;
  conjunctions = n;
  deepest_positive = n;
  other_positive = n;
  deepest_negative = n;
  negations = n;
  weighted_depth = 255 * n;
}

-- each of the prices is at most the limit
abbrev pub AreLow : ℕ → List Price → Type 0
AreLow n prices = (k : ℕ) → IsAtMost (price_at prices k) (limit n)
