use Rattle.spectro_theory.proofs.MinimalElements.{minimal_elements-by_cover}
use Rattle.spectro_theory.proofs.prices.minimal_elements_are_by_cover.Goals as goal

pub returns : goal.returns
returns c = λ es fs same. minimal_elements-by_cover es fs (λ e. (same e).0) (λ e. (same e).1)
