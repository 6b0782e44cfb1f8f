use Rattle.spectro_theory.proofs.Exactness.{price-reached}
use Rattle.spectro_theory.proofs.notions.least_prices_are_reached.Goals as goal

pub returns : goal.returns
returns c = price-reached
