use Rattle.spectro_theory.proofs.Reaching.{reaching-ends}
use Rattle.spectro_theory.proofs.pairs.reaching_ends.Goals as goal

pub returns : goal.returns
returns c = reaching-ends
