use Rattle.spectro_theory.proofs.SelfCovering.{backward_step-IsSound}
use Rattle.spectro_theory.proofs.steps.backward_steps_are_sound.Goals as goal

pub returns : goal.returns
returns c = backward_step-IsSound
