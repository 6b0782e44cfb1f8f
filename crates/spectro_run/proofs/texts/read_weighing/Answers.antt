use Rattle.std.proofs.Common.{refl, subst, inr}
use Rattle.spectro_weights.specs.WeightTexts.{IsRefused}
use Rattle.spectro_run.proofs.texts.read_weighing.Goals as goal

pub returns-in-Err-Text-clause-refused : goal.returns-in-Err-Text-clause-refused
returns-in-Err-Text-clause-refused c =
    let refused : IsRefused c.args.bytes.now c.in-Err-Text.field-0 = c.in-Err-Text.ensures.refused in
    inr (c.in-Err-Text.fault, subst (IsRefused c.args.bytes.now) c.in-Err-Text.field-0-is refused, refl)
