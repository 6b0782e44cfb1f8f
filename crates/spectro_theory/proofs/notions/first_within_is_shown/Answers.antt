use Rattle.spectro_theory.proofs.FirstWithin.{first_within-shown}
use Rattle.spectro_theory.proofs.notions.first_within_is_shown.Goals as goal

pub returns : goal.returns
returns c = first_within-shown
