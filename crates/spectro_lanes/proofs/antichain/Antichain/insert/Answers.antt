use Rattle.std.proofs.Common.{◌≡◌, ◌∙◌, ap, sym, subst}
use Rattle.std.proofs.lemmas.Bool.{true≢false}
use Rattle.spectro_spec.specs.LeastPrices.{Covers, Rises, AreApart}
use Rattle.spectro_game.specs.MinimalElements.{inserted, not_above, placed_price}
use Rattle.spectro_energy.specs.Energy.{price_of}
use Rattle.spectro_antichain.proofs.Prices.{inserted-covered, inserted-new, inserted-antichain}
use Rattle.spectro_lanes.specs.Members.{prices_held}
use Rattle.spectro_lanes.proofs.antichain.Antichain.insert.Goals as goal

-- what is not covered is put in its place
listed : (c : goal.In_ok-place) → prices_held c.place.new.self ≡ inserted (price_of c.args.e.parts) c.args.self.now
listed c =
    let e = price_of c.args.e.parts in
    let apart = λ (covered : Covers c.args.self.now e).
    true≢false (sym (c.covers.ensures.1 (subst (λ es. Covers es e) (sym c.self.view_is) covered)) ∙ c.if-covers.false) in
    c.in_ok-place.ensures.list
    ∙ ap (λ es. placed_price e (not_above e es)) c.self.view_is
    ∙ inserted-new e c.args.self.now apart

pub returns-then-covers-clause-list : goal.returns-then-covers-clause-list
returns-then-covers-clause-list c =
    let e = price_of c.args.e.parts in
    inserted-covered e c.args.self.now (subst (λ es. Covers es e) c.self.view_is (c.covers.ensures.0 c.if-covers.true))

pub invariant_of-self : goal.invariant_of-self
invariant_of-self c = subst (λ es. Rises es × AreApart es) (sym c.in_err-place.ensures.err) c.self.invariant

pub invariant_of-self-2 : goal.invariant_of-self-2
invariant_of-self-2 c =
    inserted-antichain (price_of c.args.e.parts) c.args.self.now (prices_held c.place.new.self) (listed c)
    (subst (λ es. Rises es × AreApart es) c.self.view_is c.self.invariant)

pub returns-clause-list : goal.returns-clause-list
returns-clause-list c = listed c
