use Rattle.spectro_theory.proofs.SelfCovering.{self_covering-exact}
use Rattle.spectro_theory.proofs.steps.self_covering_tables_are_exact.Goals as goal

pub returns : goal.returns
returns c = self_covering-exact
