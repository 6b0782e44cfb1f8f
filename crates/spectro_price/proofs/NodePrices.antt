-- The price of a node's formula follows from the prices of the formulas before it.
use Rattle.std.proofs.Common.{◌≡◌, ◌∙◌, ℕ, zero, suc, Bool, true, false, List, [], ◌∷◌, ◌++◌, map, refl, ap, cond}
use Rattle.std.proofs.lemmas.List.{map_push}
use Rattle.spectro_spec.specs.Formula.{Formula, Clauses, plus, minus}
use Rattle.spectro_spec.specs.Price.{Price}
use Rattle.spectro_spec.specs.Pricing.{PricedClause, plus_price, minus_price, price, priced_clauses, price_of_observation, price_of_conjunction}
use Rattle.spectro_spec.specs.Weighing.{Weighing, weight_of}
use Rattle.spectro_hml.specs.Sheets.{SheetNode, see_node, all_node, formula_at, clauses_of, formula_of_node, formulas_of}
use Rattle.spectro_hml.specs.declared.node.Clause.{Clause}
use Rattle.spectro_hml.proofs.Unfoldings.{formulas_of-push}
use Rattle.spectro_price.specs.NodePrices.{price_at, priced_clause, price_of_node}

module _ (weighing : Weighing) where
  pub price-formula_at : (formulas : List Formula) (k : ℕ) → price weighing (formula_at formulas k) ≡ price_at (map (price weighing) formulas) k
  price-formula_at [] k = refl
  price-formula_at (formula ∷ formulas) zero = refl
  price-formula_at (formula ∷ formulas) (suc k) = price-formula_at formulas k

  -- the clauses, each with its sign and the price of its node
  pub priced_clauses-clauses_of : (formulas : List Formula) (clauses : List Clause)
      → priced_clauses weighing (clauses_of formulas clauses) ≡ map (priced_clause (map (price weighing) formulas)) clauses
  priced_clauses-clauses_of formulas [] = refl
  priced_clauses-clauses_of formulas (clause ∷ clauses) =
      by clause.positive (formula_at formulas clause.node) (price_at (map (price weighing) formulas) clause.node) (clauses_of formulas clauses)
      (map (priced_clause (map (price weighing) formulas)) clauses)
      (price-formula_at formulas clause.node) (priced_clauses-clauses_of formulas clauses)
    where
      by : (positive : Bool) (formula : Formula) (e : Price) (rest : Clauses) (priced : List PricedClause)
          → price weighing formula ≡ e → priced_clauses weighing rest ≡ priced
          → priced_clauses weighing (cond positive (plus formula rest) (minus formula rest)) ≡ cond positive (plus_price e) (minus_price e) ∷ priced
      by true formula e rest priced here there = rw (here, there) refl
      by false formula e rest priced here there = rw (here, there) refl

  pub price-formula_of_node : (formulas : List Formula) (node : SheetNode)
      → price weighing (formula_of_node formulas node) ≡ price_of_node weighing (map (price weighing) formulas) node
  price-formula_of_node formulas (see_node label next) = ap (price_of_observation (weight_of weighing label)) (price-formula_at formulas next)
  price-formula_of_node formulas (all_node clauses) = ap price_of_conjunction (priced_clauses-clauses_of formulas clauses)

  -- one node more has one price more
  pub prices-push : (nodes : List SheetNode) (node : SheetNode)
      → map (price weighing) (formulas_of (nodes ++ node ∷ [])) ≡ map (price weighing) (formulas_of nodes) ++ price_of_node weighing
      (map (price weighing) (formulas_of nodes)) node ∷ []
  prices-push nodes node =
      ap (map (price weighing)) (formulas_of-push nodes node) ∙ map_push (price weighing) (formulas_of nodes) (formula_of_node (formulas_of nodes) node)
      ∙ ap (λ e. map (price weighing) (formulas_of nodes) ++ e ∷ []) (price-formula_of_node (formulas_of nodes) node)
