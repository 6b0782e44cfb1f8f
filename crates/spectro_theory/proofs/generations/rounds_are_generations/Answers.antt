use Rattle.spectro_theory.proofs.Rounds.{IsWonWithin-iff}
use Rattle.spectro_theory.proofs.generations.rounds_are_generations.Goals as goal

pub returns : goal.returns
returns c = IsWonWithin-iff
