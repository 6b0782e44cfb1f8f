use Rattle.std.proofs.Common.{arith}
use Rattle.spectro_spec.specs.Price.{IsAtMost}
use Rattle.spectro_energy.specs.Energy.{price_of}
use Rattle.spectro_lanes.specs.Columns.{price_at}
use Rattle.spectro_lanes.proofs.Marks.{marks_more_eight, marks_more}
use Rattle.spectro_lanes.proofs.lanes.mark_above.Goals as goal

pub loop-k-preserved : goal.loop-k-preserved
loop-k-preserved c = (
  omega arith,
  marks_more_eight (λ i. IsAtMost (price_of c.args.e.now.parts) (price_at c.args.stride c.args.numbers.now i)) c.loop-k.k c.loop-k.marks c.mark_eight.new.marks
      c.lanes_above.result c.mark_eight.ensures.here c.mark_eight.ensures.before c.lanes_above.ensures c.loop-k.invariant.1,
)

pub loop-k-2-preserved : goal.loop-k-2-preserved
loop-k-2-preserved c = (
  omega arith,
  marks_more (λ i. IsAtMost (price_of c.args.e.now.parts) (price_at c.args.stride c.args.numbers.now i)) c.loop-k-2.k c.loop-k-2.marks c.is_above.result
      (omega arith) c.is_above.ensures c.loop-k-2.invariant.1,
)
