use Rattle.std.proofs.Common.{◌≡◌, ◌<◌, ◌∙◌, ◌∷◌, [], ◌++◌, length, arith, refl, sym, ap, subst}
use Rattle.std.proofs.lemmas.List.{length-map}
use Rattle.spectro_lts.specs.Numbered.{labelled, steps_of, IsNumbered}
use Rattle.spectro_lts.specs.declared.step.Step.{Step}
use Rattle.spectro_lts.proofs.Numbering.{added, added_steps, few_keys}
use Rattle.spectro_lts.proofs.draft.Draft.put.Goals as goal

pub invariant_of-self-2 : goal.invariant_of-self-2
invariant_of-self-2 c =
    let inside = c.self.inside in
    let step : Step = record { from = c.args.from; label = c.in_ok-label.label; to = c.args.to } in
    let items : c.push_reserved.new.self.items ≡ inside.steps.items ++ step ∷ [] = c.push_reserved.ensures.items
    ∙ ap (λ items. items ++ step ∷ []) c.reserve.ensures.items in
    let from : c.args.from < inside.states = omega (arith, c.requires.from_in_range, ap (λ system. system.states) c.self.view_is) in
    let to : c.args.to < inside.states = omega (arith, c.requires.to_in_range, ap (λ system. system.states) c.self.view_is) in
    let few_steps : length inside.steps.items < 2000000 = omega
    (arith, length-map inside.steps.items (labelled inside.labels.keys), ap (λ system. length system.steps) c.self.view_is, c.requires.few_steps) in
    let few_labels = few_keys inside.states inside.initial inside.labels.keys inside.steps.items c.args.self.now
    (record { source = c.args.from; label = c.args.label.now; target = c.args.to }) c.self.invariant c.self.view_is c.requires.few_labels in
    subst (IsNumbered inside.states inside.initial c.number_label.new.labels.keys) (sym items)
    (added inside.states inside.initial inside.labels.keys c.number_label.new.labels.keys c.args.label.now inside.steps.items step c.self.invariant
    c.in_ok-label.ensures.ok from to few_steps few_labels c.requires.label)

pub number_label-requires : goal.number_label-requires
number_label-requires c =
    let inside = c.self.inside in
    few_keys inside.states inside.initial inside.labels.keys inside.steps.items c.args.self.now
    (record { source = c.args.from; label = c.args.label.now; target = c.args.to }) c.self.invariant c.self.view_is c.requires.few_labels

pub returns-clause-ok : goal.returns-clause-ok
returns-clause-ok c =
    let inside = c.self.inside in
    let step : Step = record { from = c.args.from; label = c.in_ok-label.label; to = c.args.to } in
    let items : c.push_reserved.new.self.items ≡ inside.steps.items ++ step ∷ [] = c.push_reserved.ensures.items
    ∙ ap (λ items. items ++ step ∷ []) c.reserve.ensures.items in
    let steps = ap (steps_of c.number_label.new.labels.keys) items
    ∙ added_steps inside.labels.keys c.number_label.new.labels.keys c.args.label.now inside.steps.items step c.self.invariant.numbers
    c.in_ok-label.ensures.ok in
    rw (steps, ← c.self.view_is) refl
