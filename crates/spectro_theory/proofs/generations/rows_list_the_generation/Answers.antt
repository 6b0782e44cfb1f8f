use Rattle.spectro_theory.proofs.RowsOfGenerations.{listed_at-generation}
use Rattle.spectro_theory.proofs.generations.rows_list_the_generation.Goals as goal

pub returns : goal.returns
returns c = listed_at-generation
