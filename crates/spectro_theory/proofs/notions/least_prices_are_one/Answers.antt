use Rattle.spectro_theory.proofs.LeastLists.{one_least}
use Rattle.spectro_theory.proofs.notions.least_prices_are_one.Goals as goal

pub returns : goal.returns
returns c = one_least
