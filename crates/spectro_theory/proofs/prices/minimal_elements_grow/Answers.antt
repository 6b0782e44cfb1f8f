use Rattle.spectro_theory.proofs.MinimalElements.{minimal_elements-push}
use Rattle.spectro_theory.proofs.prices.minimal_elements_grow.Goals as goal

pub returns : goal.returns
returns c = minimal_elements-push
