use Rattle.std.proofs.Common.{subst, sym}
use Rattle.spectro_lines.specs.Feeding.{IsTold}
use Rattle.spectro_aut.specs.Feeding.{HasTaken}
use Rattle.spectro_aut.specs.Texts.{aut_form}
use Rattle.spectro_aut.proofs.feed.Feed.finish.Goals as goal

pub returns-in-Err-Text-clause-refused : goal.returns-in-Err-Text-clause-refused
returns-in-Err-Text-clause-refused c = λ taken has.
    let told : IsTold aut_form taken c.in-Err-Text.field-0 = c.in-Err-Text.ensures.refused taken (subst (λ fed. HasTaken fed taken) (sym c.self.view_is) has) in
    subst (IsTold aut_form taken) c.in-Err-Text.field-0-is told
