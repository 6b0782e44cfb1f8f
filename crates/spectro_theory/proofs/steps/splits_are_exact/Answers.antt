use Rattle.spectro_theory.proofs.Exactness.{split-exact}
use Rattle.spectro_theory.proofs.steps.splits_are_exact.Goals as goal

pub returns : goal.returns
returns c = split-exact
