use Rattle.std.proofs.Common.{◌∙◌, ap, arith}
use Rattle.spectro_energy.specs.Energy.{price_of}
use Rattle.spectro_energy.specs.declared.energy.Energy.{Energy}
use Rattle.spectro_run.proofs.Costs.{prices-within, price_at_node}
use Rattle.spectro_run.proofs.cost.cost_of.Goals as goal

pub index-requires : goal.index-requires
index-requires c =
    let within = prices-within c.in_ok-prices.prices.items c.args.sheet.now c.args.weights.now c.args.node c.in_ok-prices.ensures.value c.requires.node in
    omega (arith, within)

pub returns : goal.returns
returns c =
    ap (λ (energy : Energy). price_of energy.parts) c.index.ensures
    ∙ price_at_node c.in_ok-prices.prices.items c.args.sheet.now c.args.weights.now c.args.node c.index.result.now c.in_ok-prices.ensures.value
    c.requires.node
