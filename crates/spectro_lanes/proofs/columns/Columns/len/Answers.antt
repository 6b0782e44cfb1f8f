use Rattle.std.proofs.Common.{◌∙◌, ap, sym, length}
use Rattle.spectro_lanes.specs.Columns.{price_at}
use Rattle.spectro_lanes.proofs.Lists.{length-firsts}
use Rattle.spectro_lanes.proofs.columns.Columns.len.Goals as goal

pub returns : goal.returns
returns c =
    let buffer = c.self.inside.buffer in
    sym (length-firsts (price_at buffer.stride buffer.numbers.items) buffer.len) ∙ ap length c.self.view_is
