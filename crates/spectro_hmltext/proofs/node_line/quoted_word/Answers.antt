use Rattle.std.proofs.Common.{sym, subst}
use Rattle.std.proofs.lemmas.Bool.{both_ways}
use Rattle.spectro_io.specs.Blanks.{IsApart}
use Rattle.spectro_io.specs.QuotedLabels.{BeginsInQuotes}
use Rattle.spectro_io.proofs.ClosingQuotes.{quotes-once}
use Rattle.spectro_hmltext.proofs.NodeLabels.{quoted-begins, begins-quoted}
use Rattle.spectro_hmltext.proofs.node_line.quoted_word.Goals as goal

pub returns-in_err-inside : goal.returns-in_err-inside
returns-in_err-inside c = rw c.from_residual.ensures
    (λ inside rest is. c.in_err-inside.ensures inside rest
    (subst (λ text. BeginsInQuotes text inside rest) (sym c.trim_start.ensures) (quoted-begins c.args.text.now inside rest is)))

pub returns-then-not-is_apart : goal.returns-then-not-is_apart
returns-then-not-is_apart c = λ inside rest is.
    let begins : BeginsInQuotes c.trim_start.result.now inside rest = subst (λ text. BeginsInQuotes text inside rest) (sym c.trim_start.ensures)
    (quoted-begins c.args.text.now inside rest is) in
    let same = quotes-once c.trim_start.result.now c.in_ok-inside.inside.now c.in_ok-inside.rest.now inside rest c.in_ok-inside.ensures begins in
    both_ways c.is_apart.result c.if-not-is_apart.true (c.is_apart.ensures.1 (subst IsApart (sym same.1) is.apart))

pub returns : goal.returns
returns c =
    let inside = c.in_ok-inside.inside.now in
    let rest = c.in_ok-inside.rest.now in
    begins-quoted c.args.text.now inside rest (subst (λ text. BeginsInQuotes text inside rest) c.trim_start.ensures c.in_ok-inside.ensures)
    (c.is_apart.ensures.0 c.if-not-is_apart.false)
