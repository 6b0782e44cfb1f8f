use Rattle.spectro_hmltext.proofs.FormulaCases.{formula_or_fault}
use Rattle.spectro_hmltext.proofs.laws.a_text_has_a_formula_or_a_fault.Goals as goal

pub returns : goal.returns
returns c = formula_or_fault
