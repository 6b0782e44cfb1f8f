use Rattle.std.proofs.Common.{ℕ, arith}
use Rattle.spectro_spec.specs.Price.{IsAtMost}
use Rattle.spectro_energy.specs.Energy.{price_of}
use Rattle.spectro_lanes.specs.Columns.{price_at}
use Rattle.spectro_lanes.proofs.First.{none_more, first_more}
use Rattle.spectro_lanes.proofs.lanes.blocks_above.Goals as goal

pub returns-then-first-lt-LANES : goal.returns-then-first-lt-LANES
returns-then-first-lt-LANES c =
    first_more (λ i. IsAtMost (price_of c.args.e.now.parts) (price_at c.args.stride c.args.numbers.now i)) c.loop-k.k 8 c.args.n _ (omega arith)
    c.loop-k.invariant.1 c.first_above_of_eight-first.ensures c.if-first-lt-LANES.true

pub loop-k-preserved : goal.loop-k-preserved
loop-k-preserved c =
    let P = λ (i : ℕ). IsAtMost (price_of c.args.e.now.parts) (price_at c.args.stride c.args.numbers.now i) in (
      omega arith,
      none_more P c.loop-k.k 8 c.loop-k.invariant.1
          (λ i low. c.first_above_of_eight-first.ensures.before i (omega (arith, c.first_above_of_eight-first.ensures.bound))),
    )
