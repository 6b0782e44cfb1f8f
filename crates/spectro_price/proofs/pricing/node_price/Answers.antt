use Rattle.std.proofs.Common.{◌∙◌, ◌+◌, length, [], ap, sym, subst, get_or, arith}
use Rattle.spectro_spec.specs.Price.{IsAtMost}
use Rattle.spectro_spec.specs.Pricing.{price_of_observation}
use Rattle.spectro_spec.specs.Weighing.{weight_of}
use Rattle.spectro_energy.specs.Energy.{price_of, prices_of}
use Rattle.spectro_energy.specs.declared.energy.Energy.{Energy}
use Rattle.spectro_hml.specs.Nodes.{node_shown}
use Rattle.spectro_hml.specs.Sheets.{IsNodeAt}
use Rattle.spectro_price.specs.NodePrices.{limit, price_of_node}
use Rattle.spectro_price.proofs.Passes.{price_at-prices_of, read-low, observation-low}
use Rattle.spectro_price.proofs.pricing.node_price.Goals as goal

pub inverse-requires : goal.inverse-requires
inverse-requires c =
    let zero : Energy = record { parts = [] } in
    let named = subst (λ node. IsNodeAt (length c.args.before.now) (node_shown node)) c.in-See.is c.requires.names in
    let low = read-low (length c.args.before.now + 1) c.args.before.now c.in-See.next zero named.1 c.requires.low in
    (omega (arith, low.observations, c.requires.few), omega (arith, low.weighted_depth, c.requires.few, c.of.type_inv))

pub returns-in-See-clause-value : goal.returns-in-See-clause-value
returns-in-See-clause-value c =
    let zero : Energy = record { parts = [] } in
    let named = subst (λ node. IsNodeAt (length c.args.before.now) (node_shown node)) c.in-See.is c.requires.names in
    c.inverse.ensures ∙ ap (λ weight. price_of_observation weight (price_of (get_or c.args.before.now c.in-See.next zero).parts)) c.of.ensures.value
    ∙ ap (price_of_observation (weight_of c.args.weights.now c.in-See.label.now)) (sym (price_at-prices_of c.args.before.now c.in-See.next zero named.1))
    ∙ ap (λ node. price_of_node c.args.weights.now (prices_of c.args.before.now) (node_shown node)) (sym c.in-See.is)

pub returns-in-See-clause-low : goal.returns-in-See-clause-low
returns-in-See-clause-low c =
    let zero : Energy = record { parts = [] } in
    let named = subst (λ node. IsNodeAt (length c.args.before.now) (node_shown node)) c.in-See.is c.requires.names in
    let low = read-low (length c.args.before.now + 1) c.args.before.now c.in-See.next zero named.1 c.requires.low in
    subst (λ e. IsAtMost e (limit (length c.args.before.now + 2))) (sym c.inverse.ensures)
    (observation-low (length c.args.before.now) c.of.result (price_of (get_or c.args.before.now c.in-See.next zero).parts) (omega (arith, c.of.type_inv)) low)
