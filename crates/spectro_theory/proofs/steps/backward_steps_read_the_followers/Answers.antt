use Rattle.spectro_theory.proofs.Locality.{backward_step-local}
use Rattle.spectro_theory.proofs.steps.backward_steps_read_the_followers.Goals as goal

pub returns : goal.returns
returns c = backward_step-local
