use Rattle.std.proofs.Common.{◌<◌, length, ◌∙◌, subst, sym, ap, arith}
use Rattle.std.specs.Prelude.{Some}
use Rattle.std.proofs.lemmas.List.{length-map}
use Rattle.std.proofs.lemmas.Option.{slice_get-get_or}
use Rattle.spectro_lts.specs.Labels.{IsStepAt}
use Rattle.spectro_lts.specs.Numbered.{labelled}
use Rattle.spectro_lts.proofs.Numbering.{step_at}
use Rattle.spectro_lts.proofs.lts.Lts.step.Goals as goal

pub returns-clause-step : goal.returns-clause-step
returns-clause-step c =
    let inside = c.self.inside in
    let step = c.index.result.now in
    let within : c.args.k < length inside.steps.items = omega
    (arith, length-map inside.steps.items (labelled inside.labels.keys), ap (λ system. length system.steps) c.self.view_is) in
    let at = slice_get-get_or inside.steps.items c.args.k step within ∙ ap Some (sym c.index.ensures) in
    subst (λ system. IsStepAt system.steps c.args.k step.from step.label step.to) c.self.view_is
    (step_at inside.states inside.initial inside.labels.keys inside.steps.items c.args.k step c.self.invariant.numbered at)
