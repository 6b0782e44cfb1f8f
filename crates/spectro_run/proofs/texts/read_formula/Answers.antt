use Rattle.std.proofs.Common.{refl, subst}
use Rattle.spectro_hmltext.specs.Faults.{IsRefused}
use Rattle.spectro_run.specs.Stops.{refused}
use Rattle.spectro_run.proofs.texts.read_formula.Goals as goal

pub returns-in-Err-Text-clause-stopped : goal.returns-in-Err-Text-clause-stopped
returns-in-Err-Text-clause-stopped c =
    refused tt (c.in-Err-Text.fault, subst (IsRefused c.args.text.now) c.in-Err-Text.field-0-is c.in-Err-Text.ensures.refused, rw c.from.ensures refl)
