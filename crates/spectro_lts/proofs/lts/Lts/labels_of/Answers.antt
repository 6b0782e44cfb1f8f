use Rattle.std.proofs.Common.{◌≡◌, ◌<◌, All, length, map, ap, subst, arith}
use Rattle.spectro_spec.specs.System.{System}
use Rattle.spectro_spec.specs.LabelOrder.{labels_from}
use Rattle.spectro_lts.specs.Labels.{labels_of, label_of}
use Rattle.spectro_lts.proofs.Indexing.{label_nos-labels, label_nos-in_range}
use Rattle.spectro_lts.proofs.lts.Lts.labels_of.Goals as goal

pub returns : goal.returns
returns c =
    let inside = c.self.inside in
    let indexed = c.self.invariant in
    let numbers = c.labels_of.result.now in
    let below : c.args.s < inside.states = omega (arith, c.requires, ap (λ (system : System). system.states) c.self.view_is) in
    let are = c.labels_of.ensures.labels inside.states indexed.ranks inside.steps.items below indexed.has in
    record {
      labels = subst (λ (system : System). map (label_of system.steps) numbers ≡ labels_from system.steps c.args.s) c.self.view_is
          (label_nos-labels inside.states inside.initial inside.labels.keys inside.steps.items inside.table indexed c.args.s numbers are);
      in_range = subst (λ (system : System). All (λ label_no. label_no < length (labels_of system.steps)) numbers) c.self.view_is
          (label_nos-in_range inside.states inside.initial inside.labels.keys inside.steps.items inside.table indexed c.args.s numbers are);
    }
