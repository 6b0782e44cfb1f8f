use Rattle.std.proofs.Common.{◌≢◌, ◌+◌, ◌∙◌, arith}
use Rattle.spectro_energy.specs.Energy.{price_of}
use Rattle.spectro_lanes.specs.Columns.{price_at}
use Rattle.spectro_lanes.proofs.Lists.{firsts-insert}
use Rattle.spectro_lanes.proofs.edits.put_at.Goals as goal

pub returns : goal.returns
returns c =
    let was = c.loop-k.invariant in
    let others = c.put_energy-2.ensures.others in
    firsts-insert (price_at c.args.stride c.args.numbers.now) (price_at c.args.stride c.put_energy-2.new.numbers) c.args.n c.args.place
    (price_of c.args.e.now.parts) c.requires.order
    (λ i low. let apart : i ≢ c.args.place = omega arith in others i (omega arith) apart ∙ was.2 i (omega arith))
    c.put_energy-2.ensures.here
    (λ i from low. let apart : i + 1 ≢ c.args.place = omega arith in others (i + 1) (omega arith) apart ∙ was.3 i (omega arith) low)
