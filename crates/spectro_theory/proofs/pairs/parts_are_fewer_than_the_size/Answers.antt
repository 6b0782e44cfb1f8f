use Rattle.spectro_theory.proofs.Sizes.{parts-size}
use Rattle.spectro_theory.proofs.pairs.parts_are_fewer_than_the_size.Goals as goal

pub returns : goal.returns
returns c = parts-size
