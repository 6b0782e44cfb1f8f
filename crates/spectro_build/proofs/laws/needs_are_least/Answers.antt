use Rattle.std.proofs.Common.{Contains}
use Rattle.spectro_build.proofs.NeededSets.{needed-within}
use Rattle.spectro_build.proofs.laws.needs_are_least.Goals as goal

pub returns : goal.returns
returns c = λ weighing system table wanted needs has_wanted has_taken. needed-within weighing system table wanted (λ x. Contains needs x) has_wanted has_taken
