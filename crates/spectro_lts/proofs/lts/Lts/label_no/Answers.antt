use Rattle.std.proofs.Common.{◌≡◌, ◌∙◌, subst, position, rules}
use Rattle.std.specs.Prelude.{None, Some}
use Rattle.std.specs.Str.{bytes_eq}
use Rattle.spectro_lts.specs.Labels.{labels_of}
use Rattle.spectro_lts.proofs.Numbering.{number_of_label}
use Rattle.spectro_lts.proofs.lts.Lts.label_no.Goals as goal

pub returns : goal.returns
returns c =
    let inside = c.self.inside in
    subst (λ system. Some c.in_ok-no.no ≡ position (bytes_eq c.args.label.now) (labels_of system.steps)) c.self.view_is
    (c.in_ok-no.ensures.index ∙ number_of_label inside.states inside.initial inside.labels.keys inside.steps.items c.args.label.now c.self.invariant.numbered)

pub returns-in_err-no : goal.returns-in_err-no
returns-in_err-no c =
    let inside = c.self.inside in
    let none : c.from_residual.result ≡ None = search rules in
    none ∙ subst (λ system. None ≡ position (bytes_eq c.args.label.now) (labels_of system.steps)) c.self.view_is
    (c.in_err-no.ensures.index ∙ number_of_label inside.states inside.initial inside.labels.keys inside.steps.items c.args.label.now c.self.invariant.numbered)
