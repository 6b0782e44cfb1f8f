use Rattle.spectro_theory.proofs.Sizes.{half-size}
use Rattle.spectro_theory.proofs.pairs.pairs_are_at_most_half_the_size.Goals as goal

pub returns : goal.returns
returns c = half-size
