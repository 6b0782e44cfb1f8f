use Rattle.spectro_theory.proofs.RowsOfGenerations.{listed_at-first}
use Rattle.spectro_theory.proofs.generations.rows_are_by_place.Goals as goal

pub returns : goal.returns
returns c = listed_at-first
