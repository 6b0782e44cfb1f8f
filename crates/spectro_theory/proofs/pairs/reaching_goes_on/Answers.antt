use Rattle.spectro_theory.proofs.Reaching.{reaching-goes_on}
use Rattle.spectro_theory.proofs.pairs.reaching_goes_on.Goals as goal

pub returns : goal.returns
returns c = reaching-goes_on
