use Rattle.std.proofs.Common.{◌≡◌, ◌∙◌, ◌<◌, length, refl, sym, ap}
use Rattle.spectro_aut.specs.Grammar.{steps}
use Rattle.spectro_aut.specs.Faults.{missing_lines}
use Rattle.spectro_aut.specs.Readings.{reading_of}
use Rattle.spectro_aut.specs.declared.error.AutKind.TheVariants.{MissingLines}
use Rattle.spectro_aut.proofs.reading.ReadingGrammar.finish.Goals as goal

pub returns-then-found-said : goal.returns-then-found-said
returns-then-found-said c =
    let is : c.args.self ≡ steps c.in-Some.steps.header.transitions c.in-Some.steps.draft = sym c.self.view_is ∙ ap reading_of c.in-Some.is in
    let said = c.in-Some.steps.header.transitions in
    let found : c.step_count-found.result ≡ length c.in-Some.steps.draft.steps = rw c.in-Some.is at c.step_count-found.ensures.value in
    let few : length c.in-Some.steps.draft.steps < said = rw (← found) (rw c.in-Some.is at c.if-found-said.true) in
    (rw c.in-Some.is (missing_lines said c.in-Some.steps.draft is few (ap (MissingLines said) found)), refl)
