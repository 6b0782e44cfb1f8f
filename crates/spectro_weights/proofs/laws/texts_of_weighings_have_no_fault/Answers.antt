use Rattle.spectro_weights.proofs.Texts.{no_fault_of_text}
use Rattle.spectro_weights.proofs.laws.texts_of_weighings_have_no_fault.Goals as goal

pub returns : goal.returns
returns c = no_fault_of_text
