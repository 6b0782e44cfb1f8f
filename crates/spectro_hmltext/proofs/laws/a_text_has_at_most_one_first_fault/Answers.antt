use Rattle.spectro_hmltext.proofs.OneFault.{one_fault}
use Rattle.spectro_hmltext.proofs.laws.a_text_has_at_most_one_first_fault.Goals as goal

pub returns : goal.returns
returns c = one_fault
