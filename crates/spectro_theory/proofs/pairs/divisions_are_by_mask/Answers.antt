use Rattle.spectro_theory.proofs.Masks.{divisions-AreByMask}
use Rattle.spectro_theory.proofs.pairs.divisions_are_by_mask.Goals as goal

pub returns : goal.returns
returns c = divisions-AreByMask
