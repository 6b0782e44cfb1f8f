use Rattle.std.proofs.Common.{◌≡◌, ◌∙◌, ◌==◌, [], ◌∷◌, ◌++◌, length, sym, ap}
use Rattle.std.proofs.lemmas.Bool.{both_ways}
use Rattle.spectro_io.proofs.Blanks.{none_left}
use Rattle.spectro_io.proofs.ClosingQuotes.{in_quotes-begin, quotes-once}
use Rattle.spectro_io.proofs.quoted.in_quotes.Goals as goal

pub returns-in_err-inside : goal.returns-in_err-inside
returns-in_err-inside c = rw c.from_residual.ensures (λ inside is. c.in_err-inside.ensures inside [] (in_quotes-begin c.args.text.now inside is))

pub returns-then-not-is_empty : goal.returns-then-not-is_empty
returns-then-not-is_empty c = λ inside is.
    let same = quotes-once c.args.text.now c.in_ok-inside.inside.now c.in_ok-inside.rest.now inside [] c.in_ok-inside.ensures
    (in_quotes-begin c.args.text.now inside is) in
    both_ways c.is_empty.result c.if-not-is_empty.true (c.is_empty.ensures ∙ ap (λ rest. length rest == 0) same.1)

pub returns : goal.returns
returns c =
    let none : c.in_ok-inside.rest.now ≡ [] = none_left c.in_ok-inside.rest.now (sym c.is_empty.ensures ∙ c.if-not-is_empty.false) in
    record { whole = c.in_ok-inside.ensures.whole ∙ ap (λ rest. 34 ∷ c.in_ok-inside.inside.now ++ 34 ∷ rest) none; closed = c.in_ok-inside.ensures.closed }
