use Rattle.std.proofs.Common.{◌≡◌, ◌∙◌, ap}
use Rattle.std.specs.Prelude.{string_bytes}
use Rattle.std.proofs.lemmas.Result.{on_ok_weaker}
use Rattle.spectro_spec.specs.Weighing.{weight_of}
use Rattle.spectro_weights.specs.Setting.{with_weight}
use Rattle.spectro_weights.proofs.Setting.{weight_of-with_weight, weight_of-other}
use Rattle.spectro_weights.proofs.weights.Weights.set.Goals as goal

placed : (c : goal.After-insert) → c.insert.new.self ≡ with_weight c.args.self.now (string_bytes c.in_ok-from_str.field-0) c.args.weight
    → c.insert.new.self ≡ with_weight c.args.self.now c.args.label.now c.args.weight
placed c list = list ∙ ap (λ label. with_weight c.args.self.now label c.args.weight) c.in_ok-from_str.ensures.ok

pub returns-clause-value : goal.returns-clause-value
returns-clause-value c =
    on_ok_weaker c.insert.result (λ list. ap (λ weighing. weight_of weighing c.args.label.now) (placed c list)
    ∙ weight_of-with_weight c.args.label.now c.args.weight c.args.self.now) c.insert.ensures.list

pub returns-clause-others : goal.returns-clause-others
returns-clause-others c =
    on_ok_weaker c.insert.result (λ list other differs. ap (λ weighing. weight_of weighing other) (placed c list)
    ∙ weight_of-other c.args.label.now c.args.weight other differs c.args.self.now) c.insert.ensures.list
