-- A number that is kept was there before, or was put down.
use Rattle.std.proofs.Common.{◌≡◌, ◌<◌, ◌+◌, ◌*◌, inl, inr, length, set, slice_index, subst, sym, arith}
use Rattle.std.proofs.lemmas.List.{length-set}
use Rattle.spectro_pairs.proofs.KnownNumbers.{kept-or-put}
use Rattle.spectro_pairs.proofs.known.Known.put.Goals as goal

pub returns-then-place-len-clause-knows : goal.returns-then-place-len-clause-knows
returns-then-place-len-clause-knows c p q m knows =
    let known = c.make_room.new.self in
    let places = known.places.items in
    let width = known.width in
    let here : c.place-place.result < length places = omega (arith, c.if-place-len.true, c.len.ensures, known.places.ok.0) in
    let place : c.place-place.result ≡ c.args.row * width + c.args.column =
    subst (λ w. c.place-place.result ≡ c.args.row * w + c.args.column) (sym c.make_room.ensures.width) c.place-place.ensures in
    let within : c.args.row * width + c.args.column < length places = subst (λ i. i < length places) place here in
    let number : slice_index (set places (c.args.row * width + c.args.column) (c.args.n + 1)) (p * width + q) ≡ m + 1 =
    subst (λ i. slice_index (set places i (c.args.n + 1)) (p * width + q) ≡ m + 1) place knows.number in
    let below : c.args.column < width = omega (arith, c.requires.column, c.make_room.ensures.width) in
    elim (kept-or-put width places c.args.row c.args.column c.args.n below within p q m knows.in_range number) [
      | inl before ↦ inl (c.make_room.ensures.knows p q m (record
          { in_range = knows.in_range; within = omega (arith, knows.within, length-set places c.place-place.result (c.args.n + 1)); number = before }))
      | inr new ↦ inr new
    ]

pub returns-else-place-len-clause-knows : goal.returns-else-place-len-clause-knows
returns-else-place-len-clause-knows c p q m knows = inl (c.make_room.ensures.knows p q m knows)
