use Rattle.spectro_aut.proofs.Texts.{one_system}
use Rattle.spectro_aut.proofs.laws.a_text_has_at_most_one_system.Goals as goal

pub returns : goal.returns
returns c = one_system
