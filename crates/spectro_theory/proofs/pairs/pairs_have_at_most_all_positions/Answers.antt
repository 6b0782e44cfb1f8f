use Rattle.spectro_theory.proofs.Sizes.{positions-size}
use Rattle.spectro_theory.proofs.pairs.pairs_have_at_most_all_positions.Goals as goal

pub returns : goal.returns
returns c = positions-size
