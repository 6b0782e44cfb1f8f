use Rattle.spectro_theory.proofs.Reaching.{same_pairs}
use Rattle.spectro_theory.proofs.pairs.same_pairs_are_equal.Goals as goal

pub returns : goal.returns
returns c = same_pairs
