use Rattle.spectro_aut.proofs.Texts.{system_or_fault}
use Rattle.spectro_aut.proofs.laws.a_text_has_a_system_or_a_fault.Goals as goal

pub returns : goal.returns
returns c = system_or_fault
