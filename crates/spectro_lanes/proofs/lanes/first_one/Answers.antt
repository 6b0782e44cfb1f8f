use Rattle.spectro_lanes.proofs.Vectors.{first_of_no_mask, first_of_some_mask}
use Rattle.spectro_lanes.proofs.lanes.first_one.Goals as goal

pub returns-then-ones-eq0 : goal.returns-then-ones-eq0
returns-then-ones-eq0 c = first_of_no_mask c.args.kept c.fits-kept.0 c.if-ones-eq0.true

pub returns : goal.returns
returns c = first_of_some_mask c.args.kept c.fits-kept.0 c.if-ones-eq0.false
