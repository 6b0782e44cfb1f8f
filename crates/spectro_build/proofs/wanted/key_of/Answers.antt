-- A listed price is found.
use Rattle.std.proofs.Common.{List, refl, subst, sym, arith}
use Rattle.spectro_spec.specs.Price.{Price}
use Rattle.spectro_energy.specs.Energy.{price_of}
use Rattle.spectro_game.specs.Reached.{StandsAt}
use Rattle.spectro_rows.specs.Rows.{row_at}
use Rattle.spectro_theory.proofs.Places.{StandsIn-member, stands-below}
use Rattle.spectro_build.proofs.wanted.key_of.Goals as goal

pub unreachable-requires : goal.unreachable-requires
unreachable-requires c =
    let e = price_of c.args.one.price.parts in
    let prices = c.least-prices.result.now in
    let (k, here) = StandsIn-member (row_at c.args.table.now.rows c.args.one.pair) e c.requires.price in
    let there = subst (λ (es : List Price). StandsAt es k e) (sym c.least-prices.ensures) here in
    let below = stands-below prices k e there in
    c.loop-place.invariant k e (omega (arith, below, c.len-place-end.ensures.value, c.loop-place-test.false)) there refl
