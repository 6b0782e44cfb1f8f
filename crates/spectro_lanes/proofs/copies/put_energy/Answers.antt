use Rattle.std.proofs.Common.{arith, get_or}
use Rattle.spectro_lanes.proofs.Places.{row_more, rows_stay}
use Rattle.spectro_lanes.proofs.copies.put_energy.Goals as goal

pub loop-part-preserved : goal.loop-part-preserved
loop-part-preserved c =
    let was = c.loop-part.invariant in
    let part = c.loop-part.part in
    let value = get_or c.args.e.now.parts part 0 in (
      row_more c.loop-part.numbers c.args.e.now.parts c.args.stride c.args.k part (omega arith) c.requires.room c.loop-part-test.true was.0,
      rows_stay c.loop-part.numbers c.args.numbers.now c.args.stride c.args.k part value c.requires.room was.1,
    )
