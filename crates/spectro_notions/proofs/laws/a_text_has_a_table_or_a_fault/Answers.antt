use Rattle.spectro_notions.proofs.Texts.{table_or_fault}
use Rattle.spectro_notions.proofs.laws.a_text_has_a_table_or_a_fault.Goals as goal

pub returns : goal.returns
returns c = table_or_fault
