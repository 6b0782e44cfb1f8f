use Rattle.std.proofs.Common.{arith, ◌+◌, take}
use Rattle.spectro_energy.specs.Energy.{price_of}
use Rattle.spectro_solve.specs.Added.{IsCoveredByBoth, IsCoveredWith}
use Rattle.spectro_solve.proofs.Adding.{both-more, chosen-then, low-item}
use Rattle.spectro_solve.proofs.pulls.choose_both.Goals as goal

pub choose_with-requires-clause-energy : goal.choose_with-requires-clause-energy
choose_with-requires-clause-energy c = low-item c.args.left.now c.loop-k.k (price_of c.item.result.parts) c.requires.left
    (omega (arith, c.loop-k-test.true, c.len-k-end.ensures)) c.item.ensures

pub loop-k-preserved : goal.loop-k-preserved
loop-k-preserved c = (
  chosen-then (IsCoveredByBoth (take c.loop-k.k c.args.left.now) c.args.right.now) (IsCoveredWith (price_of c.item.result.parts) c.args.right.now)
      (IsCoveredByBoth (take (c.loop-k.k + 1) c.args.left.now) c.args.right.now) c.args.made.now c.args.chosen.now c.loop-k.chosen c.choose_with.new.chosen
      c.loop-k.invariant.0 c.in_ok-choose_with.ensures.chosen
      (both-more c.args.left.now c.args.right.now c.loop-k.k (price_of c.item.result.parts)
      (omega (arith, c.loop-k-test.true, c.len-k-end.ensures)) c.item.ensures),
  (λ low. c.in_ok-choose_with.ensures.low (c.loop-k.invariant.1 low)),
)
