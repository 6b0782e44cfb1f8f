-- The price of one node among those of all.
use Rattle.std.proofs.Common.{◌≡◌, ◌∙◌, ℕ, ◌<◌, List, length, map, get_or, sym, ap, arith}
use Rattle.std.proofs.lemmas.List.{get_or-map, length-map}
use Rattle.spectro_spec.specs.Formula.{all, no_clauses}
use Rattle.spectro_spec.specs.Pricing.{price}
use Rattle.spectro_spec.specs.Weighing.{Weighing}
use Rattle.spectro_energy.specs.Energy.{price_of, prices_of}
use Rattle.spectro_energy.specs.declared.energy.Energy.{Energy}
use Rattle.spectro_hml.specs.Sheets.{SheetNode, formulas_of, unfolded}
use Rattle.spectro_hml.proofs.Unfoldings.{length-formulas_of}

-- there is a price for each node
pub prices-within : (found : List Energy) (nodes : List SheetNode) (weighing : Weighing) (node : ℕ)
    → prices_of found ≡ map (price weighing) (formulas_of nodes) → node < length nodes → node < length found
prices-within found nodes weighing node same within =
    let lengths : length (prices_of found) ≡ length (map (price weighing) (formulas_of nodes)) = ap length same in
    omega (arith, lengths, length-map found (λ energy. price_of energy.parts), length-map (formulas_of nodes) (price weighing), length-formulas_of nodes)

-- and it is that of the formula which the node unfolds to
pub price_at_node : (found : List Energy) (nodes : List SheetNode) (weighing : Weighing) (node : ℕ) (d : Energy)
    → prices_of found ≡ map (price weighing) (formulas_of nodes) → node < length nodes
    → price_of (get_or found node d).parts ≡ price weighing (unfolded nodes node)
price_at_node found nodes weighing node d same within =
    let here = prices-within found nodes weighing node same within in
    let there : node < length (formulas_of nodes) = omega (arith, length-formulas_of nodes) in
    sym (get_or-map (λ (energy : Energy). price_of energy.parts) found node d (price_of d.parts) here)
    ∙ ap (λ prices. get_or prices node (price_of d.parts)) same
    ∙ get_or-map (price weighing) (formulas_of nodes) node (all no_clauses) (price_of d.parts) there
