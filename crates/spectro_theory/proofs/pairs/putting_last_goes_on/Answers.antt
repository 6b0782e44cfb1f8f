use Rattle.spectro_theory.proofs.Reaching.{more_last}
use Rattle.spectro_theory.proofs.pairs.putting_last_goes_on.Goals as goal

pub returns : goal.returns
returns c = more_last
