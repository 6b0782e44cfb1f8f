use Rattle.spectro_theory.proofs.RowsOfGenerations.{next_rows-generation}
use Rattle.spectro_theory.proofs.generations.next_rows_are_generations.Goals as goal

pub returns : goal.returns
returns c = next_rows-generation
