use Rattle.spectro_build.proofs.Existence.{choice-exists}
use Rattle.spectro_build.proofs.laws.listed_prices_have_a_choice.Goals as goal

pub returns : goal.returns
returns c = choice-exists
