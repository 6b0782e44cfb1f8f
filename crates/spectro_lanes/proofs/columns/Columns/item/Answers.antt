use Rattle.std.proofs.Common.{◌∙◌, ap, sym, arith, length, get_or}
use Rattle.spectro_energy.specs.Energy.{price_of}
use Rattle.spectro_lanes.specs.Columns.{price_at}
use Rattle.spectro_lanes.proofs.Lists.{length-firsts, get_or-firsts}
use Rattle.spectro_lanes.proofs.columns.Columns.item.Goals as goal

pub energy_at-requires-clause-room : goal.energy_at-requires-clause-room
energy_at-requires-clause-room c =
    let buffer = c.self.inside.buffer in
    omega (arith, c.requires, ap length c.self.view_is, length-firsts (price_at buffer.stride buffer.numbers.items) buffer.len)

pub returns : goal.returns
returns c =
    let buffer = c.self.inside.buffer in
    let price = price_of c.energy_at.result.parts in
    c.energy_at.ensures
    ∙ ap (λ xs. price_at buffer.stride xs c.args.k) c.as_slice.ensures.value
    ∙ sym (get_or-firsts (price_at buffer.stride buffer.numbers.items) buffer.len c.args.k price
    (omega (arith, c.requires, ap length c.self.view_is, length-firsts (price_at buffer.stride buffer.numbers.items) buffer.len)))
    ∙ ap (λ ps. get_or ps c.args.k price) c.self.view_is
