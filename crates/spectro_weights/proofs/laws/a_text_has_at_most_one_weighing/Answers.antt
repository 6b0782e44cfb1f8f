use Rattle.spectro_weights.proofs.Texts.{one_weighing}
use Rattle.spectro_weights.proofs.laws.a_text_has_at_most_one_weighing.Goals as goal

pub returns : goal.returns
returns c = one_weighing
