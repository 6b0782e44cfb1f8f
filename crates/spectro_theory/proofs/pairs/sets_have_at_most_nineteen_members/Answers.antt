use Rattle.spectro_theory.proofs.Sizes.{few_members}
use Rattle.spectro_theory.proofs.pairs.sets_have_at_most_nineteen_members.Goals as goal

pub returns : goal.returns
returns c = few_members
