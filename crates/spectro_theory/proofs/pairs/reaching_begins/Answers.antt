use Rattle.spectro_theory.proofs.Reaching.{reaching-begins}
use Rattle.spectro_theory.proofs.pairs.reaching_begins.Goals as goal

pub returns : goal.returns
returns c = reaching-begins
