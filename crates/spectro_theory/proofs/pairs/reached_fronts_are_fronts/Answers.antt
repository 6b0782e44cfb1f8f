use Rattle.spectro_theory.proofs.Reaching.{fronts-begin}
use Rattle.spectro_theory.proofs.pairs.reached_fronts_are_fronts.Goals as goal

pub returns : goal.returns
returns c = fronts-begin
