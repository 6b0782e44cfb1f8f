use Rattle.std.proofs.Common.{◌≡◌, ◌≢◌, ◌+◌, length, ◌∙◌, ap, arith}
use Rattle.std.proofs.lemmas.List.{with_items_is}
use Rattle.spectro_energy.specs.Energy.{price_of}
use Rattle.spectro_lanes.specs.Columns.{price_at, prices_in}
use Rattle.spectro_lanes.proofs.Lists.{firsts-push}
use Rattle.spectro_lanes.proofs.buffer.Buffer.push.Goals as goal

pub returns : goal.returns
returns c =
    let old = c.args.self.now in
    let whole : length c.put_energy.new.numbers ≡ old.numbers.len = omega arith in
    ap (λ xs. prices_in old.stride xs (old.len + 1)) (with_items_is old.numbers c.put_energy.new.numbers whole)
    ∙ firsts-push (price_at old.stride old.numbers.items) (price_at old.stride c.put_energy.new.numbers) old.len (price_of c.args.e.now.parts)
    (λ i low. let apart : i ≢ old.len = omega arith in
    c.put_energy.ensures.others i (omega (arith, c.requires)) apart ∙ ap (λ xs. price_at old.stride xs i) c.as_mut_slice.ensures.value)
    c.put_energy.ensures.here
