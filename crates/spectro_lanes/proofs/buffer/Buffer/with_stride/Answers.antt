use Rattle.std.proofs.Common.{◌≡◌, length, ◌+◌, ◌∙◌, ap, arith}
use Rattle.std.proofs.lemmas.List.{with_items_is}
use Rattle.spectro_game.specs.Sup.{sup, zero_price}
use Rattle.spectro_lanes.specs.Columns.{price_at, prices_in}
use Rattle.spectro_lanes.proofs.Lists.{firsts-same, sup-zero}
use Rattle.spectro_lanes.proofs.buffer.Buffer.with_stride.Goals as goal

pub returns-clause-members : goal.returns-clause-members
returns-clause-members c =
    let old = c.args.self.now in
    let new = price_at c.args.stride c.put_sups.new.to in
    let whole : length c.put_sups.new.to ≡ c.in_ok-numbers.numbers.len = omega arith in
    ap (λ xs. prices_in c.args.stride xs old.len) (with_items_is c.in_ok-numbers.numbers c.put_sups.new.to whole)
    ∙ firsts-same new (price_at old.stride old.numbers.items) old.len
    (λ i low. let from_start : i ≡ 0 + i = omega arith in
    ap new from_start ∙ c.put_sups.ensures.here i low ∙ ap (λ xs. sup (price_at old.stride xs i) zero_price) c.as_slice.ensures.value
    ∙ sup-zero (price_at old.stride old.numbers.items i))
