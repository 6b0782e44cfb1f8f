use Rattle.spectro_theory.proofs.Locality.{is_marked-Decides}
use Rattle.spectro_theory.proofs.generations.marks_are_by_change.Goals as goal

pub returns : goal.returns
returns c = is_marked-Decides
