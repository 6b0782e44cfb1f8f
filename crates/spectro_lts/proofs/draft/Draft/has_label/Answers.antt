use Rattle.std.proofs.Common.{◌≡◌, ◌∙◌, subst}
use Rattle.std.specs.List.{list_any}
use Rattle.std.specs.Str.{bytes_eq}
use Rattle.spectro_lts.proofs.Numbering.{has_label}
use Rattle.spectro_lts.proofs.draft.Draft.has_label.Goals as goal

pub returns : goal.returns
returns c =
    let inside = c.self.inside in
    subst (λ system. c.contains.result ≡ list_any (λ step. bytes_eq c.args.label.now step.label) system.steps) c.self.view_is
    (c.contains.ensures ∙ has_label inside.states inside.initial inside.labels.keys inside.steps.items c.args.label.now c.self.invariant)
