use Rattle.spectro_notions.proofs.Texts.{one_fault}
use Rattle.spectro_notions.proofs.laws.a_text_has_at_most_one_first_fault.Goals as goal

pub returns : goal.returns
returns c = one_fault
