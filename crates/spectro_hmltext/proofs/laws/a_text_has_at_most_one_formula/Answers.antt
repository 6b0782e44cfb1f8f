use Rattle.spectro_hmltext.proofs.OneFault.{one_formula}
use Rattle.spectro_hmltext.proofs.laws.a_text_has_at_most_one_formula.Goals as goal

pub returns : goal.returns
returns c = one_formula
