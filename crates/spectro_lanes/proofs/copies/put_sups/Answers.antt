use Rattle.std.proofs.Common.{◌+◌, ◌*◌, ◌∙◌}
use Rattle.spectro_lanes.proofs.Places.{columns_more, beside}
use Rattle.spectro_lanes.proofs.copies.put_sups.Goals as goal

pub loop-part-preserved : goal.loop-part-preserved
loop-part-preserved c =
    let new = c.put_greater.ensures in
    let was = c.loop-part.invariant in (
      columns_more c.args.from.now c.loop-part.to c.put_greater.new.to c.args.from_stride c.args.stride c.args.at c.args.n c.loop-part.part c.args.e.now.parts
          c.requires.room new.here new.others was.0,
      (λ j low i below aside. new.others (j * c.args.stride + i) (beside c.args.at c.args.n c.args.stride j c.loop-part.part i c.requires.room below aside)
          ∙ was.1 j low i below aside),
    )
