use Rattle.std.proofs.Common.{◌∙◌}
use Rattle.spectro_energy.specs.Energy.{price_of}
use Rattle.spectro_lanes.specs.Columns.{price_at}
use Rattle.spectro_lanes.proofs.Lists.{placed-firsts}
use Rattle.spectro_lanes.proofs.edits.put_in_place.Goals as goal

pub returns : goal.returns
returns c =
    c.put_at.ensures
    ∙ placed-firsts (price_of c.args.e.now.parts) (price_at c.args.stride c.args.numbers.now) c.args.n c.first_after-place.result c.first_after-place.ensures
