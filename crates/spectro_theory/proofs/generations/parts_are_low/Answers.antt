use Rattle.spectro_theory.proofs.Bounds.{generation-ArePartsUpTo}
use Rattle.spectro_theory.proofs.generations.parts_are_low.Goals as goal

pub returns : goal.returns
returns c = generation-ArePartsUpTo
