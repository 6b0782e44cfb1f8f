use Rattle.std.proofs.Common.{◌<◌, refl}
use Rattle.std.specs.Prelude.{string_bytes}
use Rattle.std.proofs.lemmas.Option.{MatchOption-at_some, MatchOption-at_none}
use Rattle.spectro_io.specs.Numbers.{number_value}
use Rattle.spectro_weights.specs.Faults.{bad_label, bad_weight}
use Rattle.spectro_weights.proofs.WeightLines.{above-255}
use Rattle.spectro_weights.proofs.line.entry_in.Goals as goal

pub returns-in_default-2 : goal.returns-in_default-2
returns-in_default-2 c = bad_label c.in-Some.ensures.digits c.in-Some.parts.inside.now c.in-Some.ensures.form
    (MatchOption-at_none _ _ c.in_default-2.is c.in_ok-label.ensures) refl

pub returns-in_default-try_from : goal.returns-in_default-try_from
returns-in_default-try_from c =
    let digits = c.in-Some.ensures.digits in
    let heavy : 255 < number_value digits = above-255 (number_value digits) c.in-Some.parts.number c.in-Some.ensures.number c.in_default-try_from.ensures in
    bad_weight digits c.in-Some.parts.inside.now (string_bytes c.in-Some-2.label) c.in-Some.ensures.form
    (MatchOption-at_some _ _ c.in-Some-2.label c.in-Some-2.is c.in_ok-label.ensures) heavy refl
