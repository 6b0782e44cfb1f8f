use Rattle.std.proofs.Common.{◌≤◌, ◌∙◌, length, sym, ap, arith, false}
use Rattle.std.specs.Option.{option_map}
use Rattle.spectro_io.specs.Unescaping.{unescaped_behind}
use Rattle.spectro_io.proofs.QuotedLabels.{not_none, not_long, found-IsQuoted, told-IsQuoted}
use Rattle.spectro_io.proofs.quoted.unquoted.Goals as goal

pub returns-in_default : goal.returns-in_default
returns-in_default c = λ label is. not_none c.args.inside.now label is (ap (option_map (λ label. label.items)) (sym c.in_default.is) ∙ c.in_ok-label.ensures
    ∙ ap (unescaped_behind false) c.as_bytes.ensures.value)

pub returns-then-len-gt-MAX_LABEL_BYTES : goal.returns-then-len-gt-MAX_LABEL_BYTES
returns-then-len-gt-MAX_LABEL_BYTES c = λ label is. not_long c.args.inside.now label is c.in-Some.label.items
    (ap (option_map (λ label. label.items)) (sym c.in-Some.is) ∙ c.in_ok-label.ensures
    ∙ ap (unescaped_behind false) c.as_bytes.ensures.value) (omega (arith, c.len.ensures, c.if-len-gt-MAX_LABEL_BYTES.true))

pub returns : goal.returns
returns c =
    let short : length c.in-Some.label.items ≤ 8192 = omega (arith, c.len.ensures, c.if-len-gt-MAX_LABEL_BYTES.false) in
    let is = found-IsQuoted c.args.inside.now c.in-Some.label.items (ap (option_map (λ label. label.items)) (sym c.in-Some.is) ∙ c.in_ok-label.ensures
    ∙ ap (unescaped_behind false) c.as_bytes.ensures.value) short in
    rw c.ok.ensures.value
    (told-IsQuoted c.args.inside.now c.in-Some.label c.from_utf8.result c.from_utf8.ensures.ok c.from_utf8.ensures.succeeds c.utf8.inside is)
