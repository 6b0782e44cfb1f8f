use Rattle.spectro_theory.proofs.Solved.{generation-settled}
use Rattle.spectro_theory.proofs.generations.settled_generations_are_exact.Goals as goal

pub returns : goal.returns
returns c = generation-settled
