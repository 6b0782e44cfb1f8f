use Rattle.spectro_theory.proofs.MinimalElements.{minimal_elements-AreMinimal}
use Rattle.spectro_theory.proofs.prices.minimal_elements_are_minimal.Goals as goal

pub returns : goal.returns
returns c = minimal_elements-AreMinimal
