use Rattle.std.proofs.Common.{arith}
use Rattle.spectro_game.specs.Update.{inverse}
use Rattle.spectro_energy.specs.Energy.{price_of}
use Rattle.spectro_energy.specs.Updates.{update_of}
use Rattle.spectro_solve.proofs.Adding.{added-all, added-more}
use Rattle.spectro_solve.proofs.pulls.add_pulled.Goals as goal

pub loop-k-preserved : goal.loop-k-preserved
loop-k-preserved c = added-more (inverse (update_of c.args.update)) c.args.from.now c.loop-k.k (price_of c.inverse.result.parts) (price_of c.item.result.parts)
    c.args.made.now c.loop-k.made c.insert.new.self (omega (arith, c.loop-k-test.true, c.len-k-end.ensures)) c.loop-k.invariant c.in_ok-insert.ensures.list
    c.inverse.ensures c.item.ensures

pub returns : goal.returns
returns c = added-all (inverse (update_of c.args.update)) c.args.from.now c.loop-k.k c.args.made.now c.loop-k.made
    (omega (arith, c.loop-k-test.false, c.len-k-end.ensures)) c.loop-k.invariant
