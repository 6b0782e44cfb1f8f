use Rattle.std.proofs.Common.{◌∙◌, ◌+◌, ◌≤◌, ◌++◌, ◌∷◌, [], length, ap, subst, sym}
use Rattle.spectro_spec.specs.System.{System, Step}
use Rattle.spectro_lts.specs.Labels.{labels_of}
use Rattle.spectro_lts.proofs.Joining.{grown-few, grown-more, with_all, with_last}
use Rattle.spectro_lts.proofs.join.add_shifted.Goals as goal

pub put-requires-clause-few_labels : goal.put-requires-clause-few_labels
put-requires-clause-few_labels c =
    let step = c.step-step.result in
    let draft = c.args.draft.now in
    let steps = c.args.lts.now.steps in
    let added : Step = record { source = c.args.by + step.from; label = c.label.result.now; target = c.args.by + step.to } in
    let longer = ap (λ system. system.steps ++ added ∷ []) c.loop-k.invariant
    ∙ grown-more draft c.args.by steps c.loop-k.k step.from step.label step.to c.label.result.now c.step-step.ensures.step c.label.ensures.label in
    subst (λ more. length (labels_of more) ≤ 131072) (sym longer) (grown-few draft c.args.by steps (c.loop-k.k + 1) c.requires.few_labels)

pub loop-k-preserved : goal.loop-k-preserved
loop-k-preserved c =
    let step = c.step-step.result in
    let draft = c.args.draft.now in
    let steps = c.args.lts.now.steps in
    let added : Step = record { source = c.args.by + step.from; label = c.label.result.now; target = c.args.by + step.to } in
    c.in_ok-put.ensures.ok
    ∙ ap (λ (system : System). with_last system added) c.loop-k.invariant
    ∙ ap (λ more. with_all draft more)
    (grown-more draft c.args.by steps c.loop-k.k step.from step.label step.to c.label.result.now c.step-step.ensures.step c.label.ensures.label)
