use Rattle.spectro_theory.proofs.Followers.{IsFollower-iff}
use Rattle.spectro_theory.proofs.pairs.followers_are_by_case.Goals as goal

pub returns : goal.returns
returns c = IsFollower-iff
