use Rattle.std.proofs.lemmas.Result.{err_from_is_err_and}
use Rattle.spectro_hmltext.specs.declared.token.Token.TheVariants.{End}
use Rattle.spectro_hmltext.specs.Faults.{IsTextFault}
use Rattle.spectro_hmltext.specs.Parts.{IsNotFirst}
use Rattle.spectro_hmltext.proofs.Parsings.{IsParsed-read, not_ended-fault}
use Rattle.spectro_hmltext.proofs.StopLaws.{StopsAt-weaker}
use Rattle.spectro_hmltext.proofs.parser.whole.Goals as goal

pub returns-in_err-behind-clause-stopped : goal.returns-in_err-behind-clause-stopped
returns-in_err-behind-clause-stopped c =
    let text = c.args.text.now in
    let rest = c.in_ok-read.read.rest.now in
    let p = err_from_is_err_and c.from_residual-in_err-behind.result c.from_residual-in_err-behind.ensures.1 in
    rw (p.1, p.2)
    (StopsAt-weaker (IsNotFirst End rest) (IsTextFault text)
    (not_ended-fault text c.new-sheet.result c.formula.new.sheet c.in_ok-read.read.node rest c.in_ok-read.ensures.ok) c.in_err-behind.field-0.0
    c.in_err-behind.ensures.stopped)

pub returns-clause-ok : goal.returns-clause-ok
returns-clause-ok c =
    IsParsed-read c.args.text.now c.new-sheet.result c.formula.new.sheet c.in_ok-read.read.node c.in_ok-read.read.rest.now c.in_ok-behind.field-0.now
    c.requires.short c.new-sheet.ensures c.in_ok-read.ensures.ok c.in_ok-behind.ensures.ok
