use Rattle.spectro_notions.proofs.Texts.{no_fault_of_text}
use Rattle.spectro_notions.proofs.laws.texts_of_tables_have_no_fault.Goals as goal

pub returns : goal.returns
returns c = no_fault_of_text
