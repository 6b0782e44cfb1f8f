-- The first place at which a price passes the test is that of `position`.
use Rattle.std.proofs.Common.{◌≡◌, ◌∙◌, ◌<◌, inl, inr, true, false, [], length, get_or, subst, sym, ap, refl, arith, Some}
use Rattle.std.specs.List.{position}
use Rattle.std.specs.Option.{option_map}
use Rattle.std.proofs.lemmas.Bool.{cases_lt}
use Rattle.std.proofs.lemmas.Option.{slice_get_read, get_or_from_slice_get}
use Rattle.spectro_energy.specs.Energy.{price_of}
use Rattle.spectro_game.specs.MinimalElements.{is_at_most}
use Rattle.spectro_game.specs.Reached.{StandsAt}
use Rattle.spectro_theory.proofs.Places.{stands-below, stands-one}
use Rattle.spectro_build.specs.Keys.{key_at, key_of, price_at}
use Rattle.spectro_build.specs.Roles.{cost_in}
use Rattle.spectro_build.proofs.Fittings.{fits_test}
use Rattle.spectro_build.proofs.Searches.{position-at, position-none}
use Rattle.spectro_build.proofs.fitting.first_fitting.Goals as goal

pub returns-then-leq-clause-value : goal.returns-then-leq-clause-value
returns-then-leq-clause-value c =
    let f = price_of c.item-f.result.parts in
    let prices = c.least-prices.result.now in
    let within : c.loop-place.place < length prices = omega arith in
    let here = slice_get_read prices (length prices) c.loop-place.place f refl within c.item-f.ensures in
    let passes = subst (λ g. is_at_most g (price_of c.args.e.parts) ≡ true) c.cost.ensures
    (fits_test c.leq.result (price_of c.cost.result.parts) (price_of c.args.e.parts) c.leq.ensures ∙ c.if-leq.true) in
    let found = position-at (λ g. is_at_most (cost_in c.args.role g) (price_of c.args.e.parts)) prices c.loop-place.place f
    (λ j y before there. c.loop-place.invariant j y before there) here passes in
    let price : f ≡ price_at c.args.table.now.rows c.args.pair c.loop-place.place =
    sym (get_or_from_slice_get prices c.loop-place.place f (price_of []) here) ∙ ap (λ es. get_or es c.loop-place.place (price_of [])) c.least-prices.ensures in
    ap Some (c.new.ensures ∙ ap (λ g. key_of g c.args.pair c.loop-place.place) price)
    ∙ ap (option_map (key_at c.args.table.now.rows c.args.pair)) (sym found
    ∙ ap (position (λ g. is_at_most (cost_in c.args.role g) (price_of c.args.e.parts))) c.least-prices.ensures)

pub loop-place-preserved : goal.loop-place-preserved
loop-place-preserved c k f before there = elim (cases_lt k c.loop-place.place) [
  | inl earlier ↦ c.loop-place.invariant k f earlier there
  | inr now ↦
      let g = price_of c.item-f.result.parts in
      let prices = c.least-prices.result.now in
      let within : c.loop-place.place < length prices = omega arith in
      let here = slice_get_read prices (length prices) c.loop-place.place g refl within c.item-f.ensures in
      let same : k ≡ c.loop-place.place = omega arith in
      let is = stands-one prices c.loop-place.place g f here (subst (λ n. StandsAt prices n f) same there) in
      let fails = subst (λ d. is_at_most d (price_of c.args.e.parts) ≡ false) c.cost.ensures
      (fits_test c.leq.result (price_of c.cost.result.parts) (price_of c.args.e.parts) c.leq.ensures ∙ c.if-leq.false) in
      subst (λ d. is_at_most (cost_in c.args.role d) (price_of c.args.e.parts) ≡ false) is fails
]

pub returns-clause-value : goal.returns-clause-value
returns-clause-value c =
    ap (option_map (key_at c.args.table.now.rows c.args.pair)) (sym (position-none (λ f. is_at_most (cost_in c.args.role f) (price_of c.args.e.parts))
    c.least-prices.result.now (λ j y there. let below = stands-below c.least-prices.result.now j y there in c.loop-place.invariant j y (omega arith) there))
    ∙ ap (position (λ g. is_at_most (cost_in c.args.role g) (price_of c.args.e.parts))) c.least-prices.ensures)
