use Rattle.spectro_theory.proofs.Sizes.{positions-members}
use Rattle.spectro_theory.proofs.pairs.pairs_have_positions_by_their_members.Goals as goal

pub returns : goal.returns
returns c = positions-members
