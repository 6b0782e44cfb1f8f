use Rattle.std.proofs.lemmas.Result.{err_from_is_err_and}
use Rattle.spectro_hmltext.specs.Characters.{IsCharacterFault, IsCutBehind, IsTaken}
use Rattle.spectro_hmltext.proofs.CharacterLaws.{IsWalked-more, IsCutBehind-walked}
use Rattle.spectro_hmltext.proofs.StopLaws.{StopsAt-weaker}
use Rattle.spectro_hmltext.proofs.quoted_label.label_end.Goals as goal

pub returns-in_err-taken-clause-stopped : goal.returns-in_err-taken-clause-stopped
returns-in_err-taken-clause-stopped c =
    let inside = c.args.inside.now in
    let rest = c.loop-taken.rest.now in
    let bytes = c.loop-taken.bytes in
    let p = err_from_is_err_and c.from_residual.result c.from_residual.ensures.1 in
    rw (p.1, p.2) (StopsAt-weaker (IsCharacterFault rest bytes) (IsCutBehind inside)
    (IsCutBehind-walked inside bytes rest c.loop-taken.invariant) c.in_err-taken.field-0.0 c.in_err-taken.ensures.stopped)

pub loop-taken-preserved : goal.loop-taken-preserved
loop-taken-preserved c =
    let taken = c.in-Some.taken in
    let is : IsTaken c.loop-taken.rest.now c.loop-taken.bytes taken.bytes taken.rest.now = rw c.in-Some.is at c.in_ok-taken.ensures.ok in
    IsWalked-more c.args.inside.now c.loop-taken.bytes c.loop-taken.rest.now c.loop-taken.invariant taken.bytes taken.rest.now is
