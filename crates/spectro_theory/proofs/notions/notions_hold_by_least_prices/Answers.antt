use Rattle.spectro_theory.proofs.Readings.{Holds-iff}
use Rattle.spectro_theory.proofs.notions.notions_hold_by_least_prices.Goals as goal

pub returns : goal.returns
returns c = Holds-iff
