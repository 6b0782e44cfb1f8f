use Rattle.std.proofs.Common.{refl, subst, inr}
use Rattle.spectro_aut.specs.Texts.{IsRefused}
use Rattle.spectro_run.proofs.texts.read_system.Goals as goal

pub returns-in-Err-Text-clause-refused : goal.returns-in-Err-Text-clause-refused
returns-in-Err-Text-clause-refused c = λ bytes taken.
    let refused : IsRefused bytes c.in-Err-Text.field-0 = c.in-Err-Text.ensures.refused bytes taken in
    inr (c.in-Err-Text.fault, subst (IsRefused bytes) c.in-Err-Text.field-0-is refused, refl)
