use Rattle.spectro_theory.proofs.Conjunctions.{other_positive-le-deepest_positive}
use Rattle.spectro_theory.proofs.prices.others_are_no_deeper.Goals as goal

pub returns : goal.returns
returns c = other_positive-le-deepest_positive
