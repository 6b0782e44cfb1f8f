use Rattle.spectro_theory.proofs.StepLabels.{labels_from-AreStepLabels}
use Rattle.spectro_theory.proofs.systems.labels_from_are_those_of_the_steps.Goals as goal

pub returns : goal.returns
returns c = labels_from-AreStepLabels
