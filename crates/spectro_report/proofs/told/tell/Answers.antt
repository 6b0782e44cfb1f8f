use Rattle.std.proofs.Common.{map, arith}
use Rattle.std.specs.Prelude.{None}
use Rattle.spectro_report.specs.Verdicts.{verdict_of}
use Rattle.spectro_report.proofs.TellingOn.{left-next, told-next}
use Rattle.spectro_report.proofs.told.tell.Goals as goal

pub loop-first-preserved : goal.loop-first-preserved
loop-first-preserved c = record {
  told = told-next c.args.firsts.now c.loop-first.first-index None c.loop-first-test.true c.args.sheet.now c.args.numbers.now c.loop-first.next
      c.in_ok-next.field-0 (map verdict_of c.loop-first.verdicts.items) (map verdict_of c.tell_one.new.verdicts.items) c.loop-first.invariant.told
      c.in_ok-next.ensures.told;
  left = omega (
    arith,
    c.loop-first.invariant.left,
    left-next c.args.firsts.now c.loop-first.first-index None c.loop-first-test.true,
    c.in_ok-next.ensures.count,
  );
}
