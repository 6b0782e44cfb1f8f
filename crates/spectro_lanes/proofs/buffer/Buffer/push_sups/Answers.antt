use Rattle.std.proofs.Common.{◌≡◌, length, ◌+◌, ◌++◌, ◌∙◌, ap, sym, arith, inl}
use Rattle.std.specs.List.{range_with_len}
use Rattle.std.proofs.lemmas.Simd.{map-map}
use Rattle.std.proofs.lemmas.List.{with_items_is}
use Rattle.spectro_spec.specs.Price.{Price}
use Rattle.spectro_game.specs.Sup.{sup}
use Rattle.spectro_energy.specs.Energy.{price_of}
use Rattle.spectro_lanes.specs.Columns.{price_at, prices_in}
use Rattle.spectro_lanes.proofs.Lists.{firsts-append}
use Rattle.spectro_lanes.proofs.buffer.Buffer.push_sups.Goals as goal

pub returns : goal.returns
returns c =
    let old = c.args.self.now in
    let from = c.args.from.now in
    let with_e = λ (f : Price). sup f (price_of c.args.e.now.parts) in
    let member = price_at from.stride from.numbers.items in
    let whole : length c.put_sups.new.to ≡ old.numbers.len = omega arith in
    ap (λ xs. prices_in old.stride xs (old.len + from.len)) (with_items_is old.numbers c.put_sups.new.to whole)
    ∙ firsts-append (price_at old.stride old.numbers.items) (price_at old.stride c.put_sups.new.to) (λ i. with_e (member i)) old.len from.len
    (λ i low. c.put_sups.ensures.others i (omega (arith, c.requires)) (inl low) ∙ ap (λ xs. price_at old.stride xs i) c.as_mut_slice.ensures.value)
    (λ i low. c.put_sups.ensures.here i low ∙ ap (λ xs. with_e (price_at from.stride xs i)) c.as_slice.ensures.value)
    ∙ ap (λ ps. prices_in old.stride old.numbers.items old.len ++ ps) (sym (map-map with_e member (range_with_len 0 from.len)))
