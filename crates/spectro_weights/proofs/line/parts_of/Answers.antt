use Rattle.std.proofs.Common.{◌≡◌, ◌∙◌, sym, ap, subst}
use Rattle.std.specs.Str.{IsUtf8}
use Rattle.spectro_io.specs.Blanks.{trimmed}
use Rattle.spectro_io.specs.Numbers.{number_of}
use Rattle.spectro_io.specs.QuotedLabels.{IsInQuotes}
use Rattle.spectro_io.specs.Tokens.{first_token, after_token}
use Rattle.spectro_io.proofs.ClosingQuotes.{in_quotes-once}
use Rattle.spectro_io.proofs.Decimals.{number_of-found}
use Rattle.spectro_weights.specs.WeightLines.{IsWeightLine}
use Rattle.spectro_weights.proofs.WeightLines.{in_quotes_is, inside-utf8, found-IsWeightLine, some_number, told_text, no_text}
use Rattle.spectro_weights.proofs.line.parts_of.Goals as goal

pub returns-in_err-number : goal.returns-in_err-number
returns-in_err-number c =
    rw c.from_residual.ensures (λ digits inside is.
    some_number c.args.line.now digits inside is (c.in_err-number.ensures ∙ ap number_of (c.token_at.ensures.token ∙ ap first_token c.as_bytes.ensures.value)))

pub returns-in_err-inside : goal.returns-in_err-inside
returns-in_err-inside c =
    let field : c.trim.result.now ≡ trimmed (after_token c.args.line.now) = c.trim.ensures
    ∙ ap trimmed (c.token_at.ensures.rest ∙ ap after_token c.as_bytes.ensures.value) in
    rw c.from_residual-in_err-inside.ensures (λ digits inside is.
    c.in_err-inside.ensures inside (subst (λ text. IsInQuotes text inside) (sym field) (in_quotes_is c.args.line.now digits inside is)))

pub returns-in_err-inside-2 : goal.returns-in_err-inside-2
returns-in_err-inside-2 c =
    let field : c.trim.result.now ≡ trimmed (after_token c.args.line.now) = c.trim.ensures
    ∙ ap trimmed (c.token_at.ensures.rest ∙ ap after_token c.as_bytes.ensures.value) in
    rw c.from_residual-in_err-inside-2.ensures (λ digits inside is.
    let quoted : IsInQuotes c.trim.result.now inside = subst (λ text. IsInQuotes text inside) (sym field) (in_quotes_is c.args.line.now digits inside is) in
    let same : inside ≡ c.in_ok-inside.inside.now = in_quotes-once c.trim.result.now inside c.in_ok-inside.inside.now quoted c.in_ok-inside.ensures in
    no_text c.in_ok-inside.inside.now c.from_utf8.result _ c.from_utf8.ensures.cases c.in_err-inside-2.ensures.value
    (subst IsUtf8 same (inside-utf8 c.args.line.now digits inside is c.utf8.line)))

pub returns : goal.returns
returns c =
    let line = c.args.line.now in
    let token : c.token_at.result.0.now ≡ first_token line = c.token_at.ensures.token ∙ ap first_token c.as_bytes.ensures.value in
    let field : c.trim.result.now ≡ trimmed (after_token line) = c.trim.ensures
    ∙ ap trimmed (c.token_at.ensures.rest ∙ ap after_token c.as_bytes.ensures.value) in
    let number = number_of-found (first_token line) c.in_ok-number.number (c.in_ok-number.ensures ∙ ap number_of token) in
    let quoted : IsInQuotes (trimmed (after_token line)) c.in_ok-inside.inside.now = subst
    (λ text. IsInQuotes text c.in_ok-inside.inside.now) field c.in_ok-inside.ensures in
    let same : c.in_ok-inside-2.inside.now ≡ c.in_ok-inside.inside.now = told_text c.in_ok-inside.inside.now c.from_utf8.result _ c.in_ok-inside-2.inside
    c.from_utf8.ensures.cases c.in_ok-inside-2.ensures.value in
    record {
      digits = first_token line;
      form = subst (IsWeightLine line (first_token line)) (sym same) (found-IsWeightLine line c.in_ok-inside.inside.now number.0 quoted);
      number = number.1;
    }
