use Rattle.std.proofs.Common.{◌≡◌, ◌<◌, ◌∙◌, length, sym, ap, false}
use Rattle.std.specs.Prelude.{string_bytes}
use Rattle.spectro_weights.specs.Setting.{is_set}
use Rattle.spectro_weights.proofs.Setting.{below-65536, with_weight-new}
use Rattle.spectro_weights.proofs.reader.place.Goals as goal

pub returns : goal.returns
returns c =
    let label = string_bytes c.args.entry.label in
    let new : is_set c.args.weights.now label ≡ false = ap (is_set c.args.weights.now) (sym c.deref.ensures) ∙ sym c.has_label.ensures ∙ c.if-has_label.false in
    let room : length c.args.weights.now < 65536 = below-65536 c.label_count.result
    (length c.args.weights.now) c.label_count.ensures.value c.label_count.ensures.bound c.if-label_count-eq-MAX_LABELS.false in
    record { place = record { new = new; room = room }; list = c.in_ok-insert.ensures.list ∙ with_weight-new label c.args.entry.weight c.args.weights.now new }
