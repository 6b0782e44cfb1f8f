use Rattle.spectro_theory.proofs.Updates.{leaves-iff}
use Rattle.spectro_theory.proofs.prices.inverses_are_least.Goals as goal

pub returns : goal.returns
returns c = leaves-iff
