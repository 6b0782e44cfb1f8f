use Rattle.spectro_theory.proofs.Solved.{solved-affords}
use Rattle.spectro_theory.proofs.generations.solved_rows_afford_their_prices.Goals as goal

pub returns : goal.returns
returns c = solved-affords
