use Rattle.std.proofs.Common.{◌∷◌, ◌++◌, [], refl, sym, ap, ◌∙◌, arith}
use Rattle.spectro_game.specs.MinimalElements.{not_above}
use Rattle.spectro_energy.specs.Energy.{price_of}
use Rattle.spectro_lanes.specs.Columns.{price_at, prices_in}
use Rattle.spectro_lanes.proofs.Lists.{firsts-more, not_above-append, not_above-none}
use Rattle.spectro_lanes.proofs.edits.drop_above.Goals as goal

pub loop-k-init : goal.loop-k-init
loop-k-init c = (
  omega arith,
  sym (not_above-none (price_of c.args.e.now.parts) (price_at c.args.stride c.args.numbers.now) c.first_above-first.result c.first_above-first.ensures.before),
  (λ i from low. refl),
)

pub loop-k-preserved : goal.loop-k-preserved
loop-k-preserved c =
    let e = price_of c.args.e.now.parts in
    let k = c.loop-k.k in
    let was = c.loop-k.invariant in
    let old = price_at c.args.stride c.args.numbers.now in
    let now = price_at c.args.stride c.loop-k.numbers in
    let before = prices_in c.args.stride c.args.numbers.now k in (
      omega (arith, c.keep-kept.ensures.bound),
      c.keep-kept.ensures.list
          ∙ ap (λ ps. ps ++ not_above e (now k ∷ [])) was.1
          ∙ ap (λ p. not_above e before ++ not_above e (p ∷ [])) (was.2 k (omega arith) (omega arith))
          ∙ sym (not_above-append e before (old k ∷ []))
          ∙ ap (not_above e) (sym (firsts-more old k)),
      (λ i from low. c.keep-kept.ensures.later i (omega arith) low ∙ was.2 i (omega arith) low),
    )
