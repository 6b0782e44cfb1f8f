use Rattle.std.proofs.Common.{◌∙◌, ap, subst, arith}
use Rattle.std.specs.List.{position}
use Rattle.spectro_spec.specs.Price.{IsAtMost}
use Rattle.spectro_game.specs.MinimalElements.{is_at_most}
use Rattle.spectro_energy.specs.Energy.{price_of}
use Rattle.spectro_lanes.specs.Columns.{price_at, IsFirst}
use Rattle.spectro_lanes.proofs.Lists.{position_some, position_none}
use Rattle.spectro_lanes.proofs.columns.Columns.first_below.Goals as goal

pub returns-then-first-buffer : goal.returns-then-first-buffer
returns-then-first-buffer c =
    let buffer = c.self.inside.buffer in
    let e = price_of c.args.e.parts in
    let first = subst (λ xs. IsFirst (λ i. IsAtMost (price_at buffer.stride xs i) e) buffer.len c.first_below-first.result) c.as_slice.ensures.value
    c.first_below-first.ensures in
    position_none e (price_at buffer.stride buffer.numbers.items) buffer.len c.first_below-first.result first (λ low. omega (arith, c.if-first-buffer.true))
    ∙ ap (position (λ f. is_at_most f e)) c.self.view_is

pub returns : goal.returns
returns c =
    let buffer = c.self.inside.buffer in
    let e = price_of c.args.e.parts in
    let first = subst (λ xs. IsFirst (λ i. IsAtMost (price_at buffer.stride xs i) e) buffer.len c.first_below-first.result) c.as_slice.ensures.value
    c.first_below-first.ensures in
    position_some e (price_at buffer.stride buffer.numbers.items) buffer.len c.first_below-first.result first
    (omega (arith, c.if-first-buffer.false, first.bound)) ∙ ap (position (λ f. is_at_most f e)) c.self.view_is
