use Rattle.spectro_theory.proofs.Reaching.{some_pairs}
use Rattle.spectro_theory.proofs.pairs.reached_pairs_exist.Goals as goal

pub returns : goal.returns
returns c = some_pairs
