use Rattle.std.proofs.Common.{◌≡◌, ◌∙◌, ◌<◌, All, [], ◌∷◌, length, ap, sym, subst, arith}
use Rattle.std.specs.List.Sorted.{IsStrictlyIncreasing}
use Rattle.spectro_spec.specs.System.{System, IsWhole, post}
use Rattle.spectro_spec.proofs.Successors.{post-rises, post-below}
use Rattle.spectro_lts.specs.Labels.{labels_of, label_of}
use Rattle.spectro_lts.proofs.Indexing.{has_rank, successors-post}
use Rattle.spectro_lts.proofs.Numbering.{whole}
use Rattle.spectro_lts.proofs.lts.Lts.successors.Goals as goal

pub successors-requires-clause-label : goal.successors-requires-clause-label
successors-requires-clause-label c =
    let inside = c.self.inside in
    let within = subst (λ (system : System). c.args.no < length (labels_of system.steps)) (sym c.self.view_is) c.requires.label in
    has_rank inside.states inside.initial inside.labels.keys inside.steps.items inside.table c.self.invariant c.args.no within

pub returns : goal.returns
returns c =
    let inside = c.self.inside in
    let indexed = c.self.invariant in
    let system = c.args.self.now in
    let targets = c.successors.result.now in
    let label = label_of system.steps c.args.no in
    let below : c.args.s < inside.states = omega (arith, c.requires.state, ap (λ (system : System). system.states) c.self.view_is) in
    let within = subst (λ (system : System). c.args.no < length (labels_of system.steps)) (sym c.self.view_is) c.requires.label in
    let listed = c.successors.ensures.list inside.states indexed.ranks inside.steps.items below indexed.has in
    let value : targets ≡ post system (c.args.s ∷ []) label = subst
    (λ (system : System). targets ≡ post system (c.args.s ∷ []) (label_of system.steps c.args.no)) c.self.view_is
    (listed ∙ successors-post inside.states inside.initial inside.labels.keys inside.steps.items inside.table indexed c.args.s c.args.no within) in
    let is_whole = subst IsWhole c.self.view_is (whole inside.states inside.initial inside.labels.keys inside.steps.items indexed.numbered) in
    record {
      value = value;
      rises = subst (λ xs. IsStrictlyIncreasing xs) (sym value) (post-rises system (c.args.s ∷ []) label);
      in_range = subst (λ xs. All (λ t. t < system.states) xs) (sym value) (post-below system (c.args.s ∷ []) label is_whole);
    }
