use Rattle.spectro_theory.proofs.UnitWeights.{weighted_depth-unit}
use Rattle.spectro_theory.proofs.prices.unit_weights_change_nothing.Goals as goal

pub returns : goal.returns
returns c = weighted_depth-unit
