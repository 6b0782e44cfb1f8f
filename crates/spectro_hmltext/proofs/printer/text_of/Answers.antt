use Rattle.spectro_hml.specs.Sheets.{unfolded}
use Rattle.spectro_hmltext.specs.Printed.{formula_text}
use Rattle.spectro_hmltext.proofs.Printing.{whole-kept, rests-shorter, named-kept}
use Rattle.spectro_hmltext.proofs.printer.text_of.Goals as goal

-- each turn writes some of what is still to be written
pub loop-rest-smaller : goal.loop-rest-smaller
loop-rest-smaller c = rests-shorter c.args.sheet.now c.in-Some.rest _ _ _ _ _ c.in_ok-write_rest.ensures c.in-Some.ensures.items

pub loop-rest-preserved : goal.loop-rest-preserved
loop-rest-preserved c = record {
  whole = whole-kept c.args.sheet.now c.in-Some.rest _ _ _ _ _ c.in_ok-write_rest.ensures c.in-Some.ensures.items
      (formula_text (unfolded c.args.sheet.now c.args.node)) c.loop-rest.invariant.whole;
  named = named-kept c.args.sheet.now c.in-Some.rest _ _ _ _ _ c.in_ok-write_rest.ensures c.in-Some.ensures.items c.loop-rest.invariant.named;
}
