use Rattle.spectro_theory.proofs.Reaching.{without_repeats}
use Rattle.spectro_theory.proofs.pairs.pairs_without_repeats_stay.Goals as goal

pub returns : goal.returns
returns c = without_repeats
