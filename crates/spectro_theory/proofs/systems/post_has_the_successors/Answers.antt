use Rattle.spectro_theory.proofs.Successors.{post-AreSuccessors}
use Rattle.spectro_theory.proofs.systems.post_has_the_successors.Goals as goal

pub returns : goal.returns
returns c = post-AreSuccessors
