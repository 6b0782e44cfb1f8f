use Rattle.spectro_game.specs.Pairs.{followers}
use Rattle.spectro_theory.proofs.ReachedLists.{one_reached}
use Rattle.spectro_theory.proofs.pairs.reached_pairs_are_one.Goals as goal

pub returns : goal.returns
returns c = λ system. one_reached (followers system)
