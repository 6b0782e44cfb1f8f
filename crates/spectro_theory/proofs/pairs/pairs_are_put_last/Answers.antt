use Rattle.spectro_theory.proofs.Reaching.{put_last}
use Rattle.spectro_theory.proofs.pairs.pairs_are_put_last.Goals as goal

pub returns : goal.returns
returns c = put_last
