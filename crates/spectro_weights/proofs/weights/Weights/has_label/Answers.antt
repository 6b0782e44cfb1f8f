use Rattle.std.proofs.Common.{◌∙◌, sym, ap}
use Rattle.spectro_weights.specs.Setting.{is_set}
use Rattle.spectro_weights.proofs.Entries.{is_set-weighing_of}
use Rattle.spectro_weights.proofs.weights.Weights.has_label.Goals as goal

pub returns : goal.returns
returns c = c.contains_key.ensures ∙ sym (is_set-weighing_of c.args.label.now c.self.inside.weights.entries)
    ∙ ap (λ weighing. is_set weighing c.args.label.now) c.self.view_is
