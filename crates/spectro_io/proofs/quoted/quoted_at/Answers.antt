use Rattle.std.proofs.Common.{◌≡◌, ◌+◌, ◌-◌, ℕ, List, length, take, drop, sym, subst, arith, length-drop}
use Rattle.std.proofs.lemmas.List.{take_all}
use Rattle.spectro_io.specs.QuotedLabels.{BeginsInQuotes}
use Rattle.spectro_io.proofs.ClosingQuotes.{not-opened, opens_with, not-unclosed, found-quotes}
use Rattle.spectro_io.proofs.quoted.quoted_at.Goals as goal

-- what is behind a place, as the code takes it
behind : (bytes : List ℕ) (n : ℕ) → take (length bytes - n) (drop n bytes) ≡ drop n bytes
behind bytes n = take_all (length bytes - n) (drop n bytes) (omega (arith, length-drop n bytes))

pub returns-in_err-opened : goal.returns-in_err-opened
returns-in_err-opened c = rw c.from_residual.ensures (not-opened c.args.text.now c.in_err-opened.ensures.cases)

pub returns-in_err-end : goal.returns-in_err-end
returns-in_err-end c =
    let opened = c.in_ok-opened.opened.now in
    let begins = c.in_ok-opened.ensures.cases in
    rw c.from_residual-in_err-end.ensures (not-unclosed c.args.text.now opened (opens_with c.args.text.now opened begins.0 begins.1) c.in_err-end.ensures.place)

pub returns : goal.returns
returns c =
    let opened = c.in_ok-opened.opened.now in
    let begins = c.in_ok-opened.ensures.cases in
    subst (BeginsInQuotes c.args.text.now (take c.in_ok-end.end opened)) (sym (behind opened (c.in_ok-end.end + 1)))
    (found-quotes c.args.text.now opened (opens_with c.args.text.now opened begins.0 begins.1) c.in_ok-end.end c.in_ok-end.ensures.place)
