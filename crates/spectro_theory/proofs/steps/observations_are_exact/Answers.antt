use Rattle.spectro_theory.proofs.Exactness.{observation-exact}
use Rattle.spectro_theory.proofs.steps.observations_are_exact.Goals as goal

pub returns : goal.returns
returns c = observation-exact
