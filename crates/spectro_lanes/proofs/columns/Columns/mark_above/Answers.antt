use Rattle.std.proofs.Common.{◌≡◌, ◌∙◌, ap, subst, arith, length, map, false, get_or, IsTrue}
use Rattle.std.specs.Prelude.{◌↔◌}
use Rattle.spectro_spec.specs.Price.{IsAtMost}
use Rattle.spectro_game.specs.MinimalElements.{is_at_most}
use Rattle.spectro_energy.specs.Energy.{price_of}
use Rattle.spectro_lanes.specs.Columns.{price_at}
use Rattle.spectro_lanes.proofs.Lists.{length-firsts, marks_are}
use Rattle.spectro_lanes.proofs.columns.Columns.mark_above.Goals as goal

pub mark_above-requires-clause-room : goal.mark_above-requires-clause-room
mark_above-requires-clause-room c =
    let buffer = c.self.inside.buffer in
    omega (arith, c.requires, ap length c.self.view_is, length-firsts (price_at buffer.stride buffer.numbers.items) buffer.len)

pub returns : goal.returns
returns c =
    let buffer = c.self.inside.buffer in
    let e = price_of c.args.e.parts in
    let marks = c.mark_above.new.marks in
    let long : length marks ≡ buffer.len =
    omega (arith, c.requires, ap length c.self.view_is, length-firsts (price_at buffer.stride buffer.numbers.items) buffer.len) in
    marks_are e (price_at buffer.stride buffer.numbers.items) buffer.len marks long
    (λ i low. subst (λ xs. IsTrue (get_or marks i false) ↔ IsAtMost e (price_at buffer.stride xs i)) c.as_slice.ensures.value (c.mark_above.ensures i low))
    ∙ ap (map (is_at_most e)) c.self.view_is
