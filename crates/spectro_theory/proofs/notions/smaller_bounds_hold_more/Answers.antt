use Rattle.spectro_theory.proofs.Readings.{Holds-smaller}
use Rattle.spectro_theory.proofs.notions.smaller_bounds_hold_more.Goals as goal

pub returns : goal.returns
returns c = Holds-smaller
