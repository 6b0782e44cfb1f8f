use Rattle.std.proofs.Common.{ℕ, ◌≡◌, ◌∙◌, [], Contains, ap, arith, eqb-true, length, subst, sym}
use Rattle.std.specs.Prelude.{◌==◌, not}
use Rattle.std.proofs.lemmas.List.{nil_from_length}
use Rattle.std.proofs.lemmas.Bool.{true≢false}
use Rattle.spectro_spec.specs.LeastPrices.{AreApart, Covers, Rises}
use Rattle.spectro_spec.proofs.Members.{Contains-none}
use Rattle.spectro_energy.specs.Energy.{price_of}
use Rattle.spectro_rows.specs.Rows.{row_at}
use Rattle.spectro_solve.specs.Fresh.{IsFloor}
use Rattle.spectro_solve.specs.Marks.{IsMarked}
use Rattle.spectro_solve.proofs.Listing.{pair-holds, row-is}
use Rattle.spectro_solve.proofs.FreshEvaluating.{settled-on-floor, settled-without-fresh}
use Rattle.spectro_solve.proofs.fresh.is_settled.Goals as goal

pub returns-then-is_empty : goal.returns-then-is_empty
returns-then-is_empty c some system weighing starts source x here =
    let row = row-is c.args.lists.now c.args.k c.index-lists-k.result (omega (arith, c.requires.pair, c.requires.lists)) c.index-lists-k.is in
    let set : x.set ≡ c.set.result.now = pair-holds c.args.arena.now.pairs c.args.k (λ y. y.set ≡ c.set.result.now) c.set.ensures.value x here in
    let none_marked : c.numbers.result.now ≡ [] =
    nil_from_length c.numbers.result.now (eqb-true (length c.numbers.result.now) 0 (sym c.is_empty.ensures ∙ c.if-is_empty.true)) in
    let none : (j : ℕ) → ¬ IsMarked c.args.fresh.now j =
    λ j marked. Contains-none j (subst (λ l. Contains l j) none_marked ((c.numbers.ensures.members j).1 marked)) in
    settled-without-fresh system weighing starts c.args.arena.now source c.args.lists.now c.requires.lists c.args.fresh.now c.args.k x here
    (c.requires.kept system weighing starts source x here)
    (λ empty. true≢false (sym some ∙ ap not (c.is_empty-then-is_empty.ensures ∙ ap (λ qs. length qs == 0) (sym set ∙ empty)))) none
    (subst Rises (sym row) c.len.ensures.rises) (subst AreApart (sym row) c.len.ensures.apart)

pub returns : goal.returns
returns c covers system weighing starts source x here =
    let row = row-is c.args.lists.now c.args.k c.index-lists-k.result (omega (arith, c.requires.pair, c.requires.lists)) c.index-lists-k.is in
    settled-on-floor system weighing starts c.args.arena.now source c.args.lists.now c.requires.lists c.args.fresh.now c.args.k x here
    (c.requires.kept system weighing starts source x here) (price_of c.floor_at.result.parts)
    (pair-holds c.args.arena.now.pairs c.args.k (λ y. IsFloor c.args.arena.now.weights y.set (price_of c.floor_at.result.parts)) c.floor_at.ensures x here)
    (subst Rises (sym row) c.len.ensures.rises) (subst AreApart (sym row) c.len.ensures.apart)
    (subst (λ es. Covers es (price_of c.floor_at.result.parts)) (sym row) (c.covers.ensures.0 covers))
