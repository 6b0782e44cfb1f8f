use Rattle.spectro_theory.proofs.Floors.{generation-floor}
use Rattle.spectro_theory.proofs.generations.prices_stand_on_a_floor.Goals as goal

pub returns : goal.returns
returns c = generation-floor
