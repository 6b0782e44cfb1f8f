use Rattle.std.proofs.Common.{arith, ◌+◌, ◌<◌, ◌^◌, ◌∙◌, ap, subst, sym}
use Rattle.spectro_spec.specs.Price.{Price}
use Rattle.spectro_game.specs.Sup.{sup}
use Rattle.spectro_game.specs.Update.{conjoin, inverse, to_deepest}
use Rattle.spectro_energy.specs.Energy.{price_of}
use Rattle.spectro_solve.proofs.Adding.{added-all, added-more, low-item, low-sup}
use Rattle.spectro_solve.proofs.pulls.add_joined_with.Goals as goal

pub inverse-requires : goal.inverse-requires
inverse-requires c = low-sup (price_of c.args.e.parts) (price_of c.inverse-clause.result.parts) (price_of c.sup.result.parts) c.sup.ensures c.requires.chosen
    (subst (λ (y : Price). y.conjunctions + 1 < 2 ^ 32) (sym c.inverse-clause.ensures)
    (low-item c.args.from.now c.loop-k.k (price_of c.item.result.parts) c.requires.from
    (omega (arith, c.loop-k-test.true, c.len-k-end.ensures)) c.item.ensures))

pub loop-k-preserved : goal.loop-k-preserved
loop-k-preserved c = added-more (λ f. inverse conjoin (sup (price_of c.args.e.parts) (inverse to_deepest f))) c.args.from.now c.loop-k.k
    (price_of c.inverse.result.parts) (price_of c.item.result.parts) c.args.made.now c.loop-k.made c.insert.new.self
    (omega (arith, c.loop-k-test.true, c.len-k-end.ensures)) c.loop-k.invariant c.in_ok-insert.ensures.list
    (c.inverse.ensures ∙ ap (inverse conjoin) (c.sup.ensures ∙ ap (sup (price_of c.args.e.parts)) c.inverse-clause.ensures)) c.item.ensures

pub returns : goal.returns
returns c = added-all (λ f. inverse conjoin (sup (price_of c.args.e.parts) (inverse to_deepest f))) c.args.from.now c.loop-k.k c.args.made.now c.loop-k.made
    (omega (arith, c.loop-k-test.false, c.len-k-end.ensures)) c.loop-k.invariant
