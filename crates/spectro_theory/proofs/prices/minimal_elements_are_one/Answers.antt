use Rattle.spectro_theory.proofs.MinimalElements.{AreMinimal-one}
use Rattle.spectro_theory.proofs.prices.minimal_elements_are_one.Goals as goal

pub returns : goal.returns
returns c = AreMinimal-one
