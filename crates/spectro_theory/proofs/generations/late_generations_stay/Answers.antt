use Rattle.std.proofs.Common.{suc, arith}
use Rattle.spectro_theory.proofs.Solved.{generation-still}
use Rattle.spectro_theory.proofs.generations.late_generations_stay.Goals as goal

pub returns : goal.returns
returns c = λ weighing system pairs closed k p qs late. generation-still weighing system pairs closed (suc k) k (omega arith) late p qs
