use Rattle.spectro_hmltext.proofs.OneFault.{no_fault_of_text}
use Rattle.spectro_hmltext.proofs.laws.texts_of_formulas_have_no_fault.Goals as goal

pub returns : goal.returns
returns c = no_fault_of_text
