use Rattle.std.proofs.Common.{refl, subst, inr}
use Rattle.spectro_notions.specs.NotionTexts.{IsRefused}
use Rattle.spectro_run.proofs.texts.read_table.Goals as goal

pub returns-in-Err-Text-clause-refused : goal.returns-in-Err-Text-clause-refused
returns-in-Err-Text-clause-refused c =
    let refused : IsRefused c.args.bytes.now c.in-Err-Text.field-0 = c.in-Err-Text.ensures.refused in
    inr (c.in-Err-Text.fault, subst (IsRefused c.args.bytes.now) c.in-Err-Text.field-0-is refused, refl)
