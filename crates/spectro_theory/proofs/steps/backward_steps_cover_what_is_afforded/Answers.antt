use Rattle.spectro_theory.proofs.BackwardSteps.{backward_step-affords, affords-backward_step}
use Rattle.spectro_theory.proofs.steps.backward_steps_cover_what_is_afforded.Goals as goal

pub returns : goal.returns
returns c = λ weighing system table p qs e. (backward_step-affords weighing system table p qs e, affords-backward_step weighing system table p qs e)
