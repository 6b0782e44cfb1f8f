use Rattle.spectro_weights.proofs.Texts.{weighing_or_fault}
use Rattle.spectro_weights.proofs.laws.a_text_has_a_weighing_or_a_fault.Goals as goal

pub returns : goal.returns
returns c = weighing_or_fault
