use Rattle.std.proofs.Common.{arith, ◌∙◌, ap}
use Rattle.spectro_game.specs.Update.{conjoin, inverse, to_negative, to_other}
use Rattle.spectro_energy.specs.Energy.{price_of}
use Rattle.spectro_solve.proofs.Adding.{added-all, added-more}
use Rattle.spectro_solve.proofs.fresh.add_negated.Goals as goal

pub loop-k-preserved : goal.loop-k-preserved
loop-k-preserved c = added-more (λ f. inverse conjoin (inverse to_other (inverse to_negative f))) c.args.from.now c.loop-k.k
    (price_of c.inverse-in-loop-k.result.parts) (price_of c.item.result.parts)
    c.args.made.now c.loop-k.made c.insert.new.self (omega (arith, c.loop-k-test.true, c.len-k-end.ensures)) c.loop-k.invariant c.in_ok-insert.ensures.list
    (c.inverse-in-loop-k.ensures ∙ ap (inverse conjoin) (c.inverse-clause.ensures ∙ ap (inverse to_other) c.inverse.ensures)) c.item.ensures

pub returns : goal.returns
returns c = added-all (λ f. inverse conjoin (inverse to_other (inverse to_negative f))) c.args.from.now c.loop-k.k c.args.made.now c.loop-k.made
    (omega (arith, c.loop-k-test.false, c.len-k-end.ensures)) c.loop-k.invariant
