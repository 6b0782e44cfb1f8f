use Rattle.spectro_aut.proofs.Texts.{no_fault_of_text}
use Rattle.spectro_aut.proofs.laws.texts_of_systems_have_no_fault.Goals as goal

pub returns : goal.returns
returns c = no_fault_of_text
