use Rattle.std.proofs.Common.{arith, ◌+◌, take}
use Rattle.spectro_spec.specs.Price.{IsAtMost}
use Rattle.spectro_energy.specs.Energy.{price_of}
use Rattle.spectro_solve.specs.Added.{IsCoveredWith}
use Rattle.spectro_solve.proofs.Adding.{chosen-then, low-item, low-sup, with-item}
use Rattle.spectro_solve.proofs.pulls.choose_with.Goals as goal

pub choose-requires : goal.choose-requires
choose-requires c = low-sup (price_of c.args.e.parts) (price_of c.item.result.parts) (price_of c.sup.result.parts) c.sup.ensures c.requires.energy
    (low-item c.args.others.now c.loop-k.k (price_of c.item.result.parts) c.requires.others
    (omega (arith, c.loop-k-test.true, c.len-k-end.ensures)) c.item.ensures)

pub loop-k-preserved : goal.loop-k-preserved
loop-k-preserved c = (
  chosen-then (IsCoveredWith (price_of c.args.e.parts) (take c.loop-k.k c.args.others.now)) (IsAtMost (price_of c.sup.result.parts))
      (IsCoveredWith (price_of c.args.e.parts) (take (c.loop-k.k + 1) c.args.others.now)) c.args.made.now c.args.chosen.now c.loop-k.chosen c.choose.new.chosen
      c.loop-k.invariant.0 c.in_ok-choose.ensures.chosen
      (with-item (price_of c.args.e.parts) (price_of c.sup.result.parts) (price_of c.item.result.parts) c.args.others.now c.loop-k.k
      (omega (arith, c.loop-k-test.true, c.len-k-end.ensures)) c.sup.ensures c.item.ensures),
  (λ low. c.in_ok-choose.ensures.low (c.loop-k.invariant.1 low)),
)
