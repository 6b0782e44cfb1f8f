use Rattle.std.proofs.Common.{◌≡◌, ◌∙◌, sym, ap, subst}
use Rattle.std.specs.Prelude.{◌↔◌, IsTrue}
use Rattle.std.proofs.lemmas.Bool.{both_ways}
use Rattle.spectro_io.specs.Blanks.{AreBlanks}
use Rattle.spectro_io.proofs.Blanks.{blank_test}
use Rattle.spectro_notions.specs.NotionLines.{HasForm}
use Rattle.spectro_io.specs.Tokens.{first_token, after_token}
use Rattle.spectro_notions.proofs.LineForms.{lacks_name, lacks_part, lacks_end, has_form}
use Rattle.spectro_notions.proofs.line.fields_of.Goals as goal

pub returns-in_err-name : goal.returns-in_err-name
returns-in_err-name c =
    let line = c.args.line.now in
    let token : c.token_at.result.0.now ≡ first_token line = c.token_at.ensures.token ∙ ap first_token c.as_bytes.ensures.value in
    let behind : c.token_at.result.1.now ≡ after_token line = c.token_at.ensures.rest ∙ ap after_token c.as_bytes.ensures.value in
    rw c.from_residual.ensures (lacks_name line c.token_at.result.1.now behind c.token_at.result.0.now token c.in_err-name.ensures)

pub returns-in_err-parts : goal.returns-in_err-parts
returns-in_err-parts c =
    let line = c.args.line.now in
    let behind : c.token_at.result.1.now ≡ after_token line = c.token_at.ensures.rest ∙ ap after_token c.as_bytes.ensures.value in
    rw c.from_residual-in_err-parts.ensures (lacks_part line c.token_at.result.1.now behind c.in_err-parts.ensures)

pub returns-then-not-is_empty : goal.returns-then-not-is_empty
returns-then-not-is_empty c =
    let line = c.args.line.now in
    let behind : c.token_at.result.1.now ≡ after_token line = c.token_at.ensures.rest ∙ ap after_token c.as_bytes.ensures.value in
    let left = c.in_ok-parts.rest.now in
    let blank : IsTrue c.is_empty.result ↔ AreBlanks left = blank_test left c.trim_start.result.now c.is_empty.result c.trim_start.ensures c.is_empty.ensures in
    lacks_end line c.token_at.result.1.now behind c.in_ok-parts.parts left c.in_ok-parts.ensures
    (λ all. both_ways c.is_empty.result c.if-not-is_empty.true (blank.1 all))

pub returns : goal.returns
returns c =
    let line = c.args.line.now in
    let token : c.token_at.result.0.now ≡ first_token line = c.token_at.ensures.token ∙ ap first_token c.as_bytes.ensures.value in
    let behind : c.token_at.result.1.now ≡ after_token line = c.token_at.ensures.rest ∙ ap after_token c.as_bytes.ensures.value in
    let left = c.in_ok-parts.rest.now in
    let blank : IsTrue c.is_empty.result ↔ AreBlanks left = blank_test left c.trim_start.result.now c.is_empty.result c.trim_start.ensures c.is_empty.ensures in
    let found = has_form line c.token_at.result.1.now behind c.in_ok-parts.parts left c.in_ok-parts.ensures c.token_at.result.0.now token
    c.in_ok-name.ensures.1 (blank.0 c.if-not-is_empty.false) in
    record {
      parts = found.parts;
      form = subst (λ name. HasForm line name found.parts) (sym c.in_ok-name.ensures.0) found.form;
      capped = found.capped;
    }
