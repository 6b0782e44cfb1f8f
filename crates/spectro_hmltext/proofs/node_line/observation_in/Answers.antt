use Rattle.std.proofs.Common.{◌∙◌, ap}
use Rattle.std.proofs.lemmas.Bool.{both_ways}
use Rattle.spectro_io.specs.Blanks.{skip_blanks, AreBlanks}
use Rattle.spectro_io.specs.Numbers.{number_of}
use Rattle.spectro_io.specs.Tokens.{first_token, after_token}
use Rattle.spectro_io.proofs.Blanks.{blank_test}
use Rattle.spectro_io.proofs.Decimals.{number_of-found}
use Rattle.spectro_hmltext.proofs.NodeForms.{no_next, no_end, found-observation}
use Rattle.spectro_hmltext.proofs.node_line.observation_in.Goals as goal

pub returns-in_err-inside : goal.returns-in_err-inside
returns-in_err-inside c = rw c.from_residual.ensures (λ inside next is. c.in_err-inside.ensures inside is.rest is.quoted)

pub returns-in_err-next : goal.returns-in_err-next
returns-in_err-next c =
    rw c.from_residual-in_err-next.ensures
    (no_next c.args.text.now c.in_ok-inside.inside.now c.in_ok-inside.rest.now c.in_ok-inside.ensures
    (c.in_err-next.ensures ∙ ap number_of c.token_at.ensures.token))

pub returns-then-not-is_empty : goal.returns-then-not-is_empty
returns-then-not-is_empty c =
    no_end c.args.text.now c.in_ok-inside.inside.now c.in_ok-inside.rest.now c.in_ok-inside.ensures
    (λ blank. both_ways c.is_empty.result c.if-not-is_empty.true
    ((blank_test (after_token c.in_ok-inside.rest.now) c.trim_start.result.now c.is_empty.result
    (c.trim_start.ensures ∙ ap skip_blanks c.token_at.ensures.rest) c.is_empty.ensures).1 blank))

pub returns : goal.returns
returns c =
    let number = number_of-found (first_token c.in_ok-inside.rest.now) c.in_ok-next.next (c.in_ok-next.ensures ∙ ap number_of c.token_at.ensures.token) in
    let end : AreBlanks (after_token c.in_ok-inside.rest.now) =
    (blank_test (after_token c.in_ok-inside.rest.now) c.trim_start.result.now c.is_empty.result
    (c.trim_start.ensures ∙ ap skip_blanks c.token_at.ensures.rest) c.is_empty.ensures).0 c.if-not-is_empty.false in
    record {
      next = _;
      is = found-observation c.args.text.now c.in_ok-inside.inside.now c.in_ok-inside.rest.now c.in_ok-inside.ensures number.0 end;
      value =
          number.1;
    }
