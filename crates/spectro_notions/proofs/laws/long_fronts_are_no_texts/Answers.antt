use Rattle.spectro_notions.proofs.Texts.{read_front_no_text}
use Rattle.spectro_notions.proofs.laws.long_fronts_are_no_texts.Goals as goal

pub returns : goal.returns
returns c = read_front_no_text
