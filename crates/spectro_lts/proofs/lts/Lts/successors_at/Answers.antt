use Rattle.std.proofs.Common.{◌≡◌, ◌∙◌, ◌<◌, All, [], ◌∷◌, length, slice_get, slice_index_or, Some, ap, sym, subst, arith}
use Rattle.std.proofs.lemmas.Option.{slice_get-get_or}
use Rattle.std.specs.List.Sorted.{IsStrictlyIncreasing}
use Rattle.spectro_spec.specs.System.{Label, System, IsWhole, post}
use Rattle.spectro_spec.specs.LabelOrder.{labels_from}
use Rattle.spectro_spec.proofs.Successors.{post-rises, post-below}
use Rattle.spectro_lts.proofs.Indexing.{row_length-labels, row-post}
use Rattle.spectro_lts.proofs.Numbering.{whole}
use Rattle.spectro_lts.proofs.lts.Lts.successors_at.Goals as goal

pub successors_at-requires-clause-place : goal.successors_at-requires-clause-place
successors_at-requires-clause-place c =
    let inside = c.self.inside in
    let below : c.args.s < inside.states = omega (arith, c.requires.state, ap (λ (system : System). system.states) c.self.view_is) in
    let within = subst (λ (system : System). c.args.i < length (labels_from system.steps c.args.s)) (sym c.self.view_is) c.requires.place in
    omega (arith, within, row_length-labels inside.states inside.initial inside.labels.keys inside.steps.items inside.table c.self.invariant c.args.s below)

pub returns : goal.returns
returns c =
    let inside = c.self.inside in
    let indexed = c.self.invariant in
    let system = c.args.self.now in
    let targets = c.successors_at.result.now in
    let below : c.args.s < inside.states = omega (arith, c.requires.state, ap (λ (system : System). system.states) c.self.view_is) in
    let listed = c.successors_at.ensures.list inside.states indexed.ranks inside.steps.items below indexed.has in
    let value : (label : Label) → slice_get (labels_from system.steps c.args.s) c.args.i ≡ Some label → targets ≡ post system (c.args.s ∷ []) label =
    subst (λ (system : System). (label : Label) → slice_get (labels_from system.steps c.args.s) c.args.i ≡ Some label
    → targets ≡ post system (c.args.s ∷ []) label) c.self.view_is
    (λ label here. listed
    ∙ row-post inside.states inside.initial inside.labels.keys inside.steps.items inside.table indexed c.args.s below c.args.i label here) in
    let label = slice_index_or (labels_from system.steps c.args.s) c.args.i [] in
    let is = value label (slice_get-get_or (labels_from system.steps c.args.s) c.args.i [] c.requires.place) in
    let is_whole = subst IsWhole c.self.view_is (whole inside.states inside.initial inside.labels.keys inside.steps.items indexed.numbered) in
    record {
      value = value;
      rises = subst (λ xs. IsStrictlyIncreasing xs) (sym is) (post-rises system (c.args.s ∷ []) label);
      in_range = subst (λ xs. All (λ t. t < system.states) xs) (sym is) (post-below system (c.args.s ∷ []) label is_whole);
    }
