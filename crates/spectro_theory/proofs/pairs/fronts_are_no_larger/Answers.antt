use Rattle.spectro_theory.proofs.Sizes.{size-front}
use Rattle.spectro_theory.proofs.pairs.fronts_are_no_larger.Goals as goal

pub returns : goal.returns
returns c = size-front
