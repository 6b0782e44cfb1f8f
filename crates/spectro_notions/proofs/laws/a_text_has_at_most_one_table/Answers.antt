use Rattle.spectro_notions.proofs.Texts.{one_table}
use Rattle.spectro_notions.proofs.laws.a_text_has_at_most_one_table.Goals as goal

pub returns : goal.returns
returns c = one_table
