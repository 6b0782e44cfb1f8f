use Rattle.std.proofs.Common.{sym, subst}
use Rattle.spectro_spec.specs.System.{Step}
use Rattle.spectro_aut.specs.Readings.{MayFollow, IsDraftOf}
use Rattle.spectro_aut.proofs.Steps.{may_follow, followed}
use Rattle.spectro_aut.proofs.reading.take_step.Goals as goal

pub add-requires-clause-from_in_range : goal.add-requires-clause-from_in_range
add-requires-clause-from_in_range c =
    (may_follow c.args.steps.now.header c.args.steps.now.draft c.args.line.now _ c.requires.draft c.requires.one_line
    (sym (rw c.in-Ok.is at c.step_in.ensures))).source

pub add-requires-clause-to_in_range : goal.add-requires-clause-to_in_range
add-requires-clause-to_in_range c =
    (may_follow c.args.steps.now.header c.args.steps.now.draft c.args.line.now _ c.requires.draft c.requires.one_line
    (sym (rw c.in-Ok.is at c.step_in.ensures))).target

pub add-requires-clause-label : goal.add-requires-clause-label
add-requires-clause-label c =
    (may_follow c.args.steps.now.header c.args.steps.now.draft c.args.line.now _ c.requires.draft c.requires.one_line
    (sym (rw c.in-Ok.is at c.step_in.ensures))).label

pub returns-in_ok-add-in-Ok-clause-draft : goal.returns-in_ok-add-in-Ok-clause-draft
returns-in_ok-add-in-Ok-clause-draft c =
    let step : Step = record { source = c.in-Ok.step.source; label = c.in-Ok.step.label.now; target = c.in-Ok.step.target } in
    let next : MayFollow c.args.steps.now.header c.args.steps.now.draft step = may_follow c.args.steps.now.header c.args.steps.now.draft c.args.line.now
    step c.requires.draft c.requires.one_line (sym (rw c.in-Ok.is at c.step_in.ensures)) in
    subst (IsDraftOf c.args.steps.now.header) (sym c.in_ok-add-in-Ok.ensures.ok)
    (followed c.args.steps.now.header c.args.steps.now.draft step c.requires.draft next)
