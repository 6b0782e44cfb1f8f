use Rattle.std.proofs.Common.{◌∙◌, ◌+◌, length, ap, subst}
use Rattle.spectro_spec.specs.Price.{IsAtMost}
use Rattle.spectro_energy.specs.Energy.{price_of, prices_of}
use Rattle.spectro_hml.specs.Nodes.{node_shown}
use Rattle.spectro_price.specs.NodePrices.{limit, price_of_node}
use Rattle.spectro_price.proofs.Walks.{ArePrices-more}
use Rattle.spectro_price.proofs.pricing.prices.Goals as goal

pub loop-k-preserved : goal.loop-k-preserved
loop-k-preserved c =
    ArePrices-more c.args.weights.now c.args.sheet.now c.loop-k.k c.loop-k.found.items c.push.new.self.items
    (node_shown c.node.result) c.node_price-price.result c.loop-k.invariant
    c.node.ensures.node c.in_ok-push.ensures.items
    (c.node_price-price.ensures.value
    ∙ ap (λ energies. price_of_node c.args.weights.now (prices_of energies) (node_shown c.node.result)) c.as_slice.ensures.value)
    (subst (λ energies. IsAtMost (price_of c.node_price-price.result.parts) (limit (length energies + 2))) c.as_slice.ensures.value
    c.node_price-price.ensures.low)
