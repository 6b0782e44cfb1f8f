use Rattle.spectro_theory.proofs.ReachedPairs.{reached-closed}
use Rattle.spectro_theory.proofs.pairs.reached_pairs_are_closed.Goals as goal

pub returns : goal.returns
returns c = reached-closed
