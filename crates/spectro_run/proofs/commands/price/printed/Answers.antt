-- The text is short enough, so it is printed.
use Rattle.std.proofs.Common.{arith, subst}
use Rattle.spectro_hml.specs.Sheets.{unfolded}
use Rattle.spectro_hmltext.specs.Printed.{IsPrinted}
use Rattle.spectro_run.proofs.commands.price.printed.Goals as goal

-- the text is short
pub unreachable-requires : goal.unreachable-requires
unreachable-requires c =
    let long = subst (IsPrinted (unfolded c.args.sheet.now c.args.node) 131072) c.in-TooLong.is c.in_ok-text.ensures in
    omega (arith, long, c.requires.short)
