use Rattle.spectro_theory.proofs.Sizes.{size-append}
use Rattle.spectro_theory.proofs.pairs.sizes_add_up.Goals as goal

pub returns : goal.returns
returns c = size-append
