use Rattle.spectro_theory.proofs.Solved.{generation-late}
use Rattle.spectro_theory.proofs.generations.late_generations_are_exact.Goals as goal

pub returns : goal.returns
returns c = λ weighing system pairs closed k p qs late. generation-late weighing system pairs closed k late p qs
