use Rattle.std.proofs.Common.{◌+◌, leb, get_or}
use Rattle.std.proofs.lemmas.Bool.{leb-true, le-leb}
use Rattle.spectro_lanes.proofs.Vectors.{selected_left, one_where}
use Rattle.spectro_lanes.proofs.lanes.kept_below.Goals as goal

pub returns : goal.returns
returns c i low =
    one_where (leb (get_or c.args.numbers.now (c.args.at + i) 0) c.args.bound) _ _ (get_or c.args.kept i 0) (leb-true _ _, le-leb _ _)
    (selected_left leb c.args.kept c.args.numbers.now c.args.at c.args.bound i c.fits-kept.0 c.requires low)
