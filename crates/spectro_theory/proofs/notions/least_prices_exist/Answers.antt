use Rattle.spectro_theory.proofs.Universe.{some_least}
use Rattle.spectro_theory.proofs.notions.least_prices_exist.Goals as goal

pub returns : goal.returns
returns c = some_least
