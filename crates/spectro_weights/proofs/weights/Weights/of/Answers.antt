use Rattle.std.proofs.Common.{◌∙◌, sym, ap}
use Rattle.std.specs.Prelude.{unwrap_or}
use Rattle.spectro_spec.specs.Weighing.{weight_of}
use Rattle.spectro_weights.proofs.Entries.{weight_of-weighing_of}
use Rattle.spectro_weights.proofs.weights.Weights.of.Goals as goal

pub returns-clause-value : goal.returns-clause-value
returns-clause-value c =
    c.unwrap_or.ensures ∙ ap (λ weight. unwrap_or weight 1) (c.copied.ensures ∙ c.get.ensures.value)
    ∙ sym (weight_of-weighing_of c.args.label.now c.self.inside.weights.entries) ∙ ap (λ weighing. weight_of weighing c.args.label.now) c.self.view_is
