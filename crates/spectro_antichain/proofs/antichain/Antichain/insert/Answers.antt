use Rattle.std.proofs.Common.{arith, ◌≡◌, ◌∙◌, ap, refl, subst, sym}
use Rattle.std.specs.List.{insert, position_or_len}
use Rattle.std.proofs.lemmas.Bool.{true≢false}
use Rattle.spectro_spec.specs.LeastPrices.{Rises, AreApart}
use Rattle.spectro_game.specs.MinimalElements.{inserted, not_above}
use Rattle.spectro_energy.specs.Energy.{price_of, prices_of}
use Rattle.spectro_antichain.specs.Prices.{comes_first}
use Rattle.spectro_antichain.proofs.Prices.{inserted-covered, inserted-prices_of, inserted-antichain}
use Rattle.spectro_antichain.proofs.antichain.Antichain.insert.Goals as goal

-- with room for it, e is put at its place
listed : (c : goal.After-insert) → prices_of c.insert.new.self.items ≡ inserted (price_of c.args.e.parts) c.args.self.now
listed c =
    let room = c.insert.ensures.succeeds (omega (arith, c.in_ok-reserve.ensures.ok, c.drop_above.ensures.len, c.drop_above.ensures.capacity)) in
    let now : c.insert.new.self.items ≡ insert c.drop_above.new.energies.items c.place_of-place.result c.args.e = rw (c.insert.ensures.items, room) refl in
    inserted-prices_of c.args.e c.drop_above.new.energies.items c.insert.new.self.items c.args.self.now c.place_of-place.result
    (λ covered. true≢false (sym (c.covers.ensures.1 covered) ∙ c.if-covers.false))
    (c.drop_above.ensures.list ∙ ap (λ es. not_above (price_of c.args.e.parts) (prices_of es)) c.reserve.ensures.items
    ∙ ap (not_above (price_of c.args.e.parts)) c.self.view_is)
    (c.place_of-place.ensures.value ∙ ap (position_or_len (comes_first c.args.e)) c.as_slice.ensures.value)
    now

pub returns-then-covers-clause-list : goal.returns-then-covers-clause-list
returns-then-covers-clause-list c = inserted-covered (price_of c.args.e.parts) c.args.self.now (c.covers.ensures.0 c.if-covers.true)

pub invariant_of-self : goal.invariant_of-self
invariant_of-self c = subst (λ es. Rises (prices_of es) × AreApart (prices_of es)) (sym c.reserve.ensures.items) c.self.invariant

pub invariant_of-self-2 : goal.invariant_of-self-2
invariant_of-self-2 c =
    inserted-antichain (price_of c.args.e.parts) c.args.self.now (prices_of c.insert.new.self.items) (listed c)
    (subst (λ es. Rises es × AreApart es) c.self.view_is c.self.invariant)

pub returns-clause-list : goal.returns-clause-list
returns-clause-list c = listed c
