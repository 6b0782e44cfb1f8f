use Rattle.std.proofs.Common.{sym, subst}
use Rattle.std.proofs.lemmas.Result.{err_from_is_err_and}
use Rattle.spectro_io.specs.Batches.{Puts}
use Rattle.spectro_io.specs.Bytes.{AppendsPart}
use Rattle.spectro_io.proofs.Written.{AppendsPart-front}
use Rattle.spectro_io.proofs.Batches.{pending-more, pending-part, puts-more}
use Rattle.spectro_report.proofs.PutLines.{extents-pieces}
use Rattle.spectro_report.proofs.extents.put_extents.Goals as goal

pub returns-in_err-put_side-clause-bytes : goal.returns-in_err-put_side-clause-bytes
returns-in_err-put_side-clause-bytes g c =
    let p = err_from_is_err_and c.from_residual.result c.from_residual.ensures.1 in
    let part = rw (c.left.ensures.states, c.left.ensures.transitions) at c.in_err-put_side.ensures.bytes in
    rw p.1 (subst (AppendsPart _ _) (sym (extents-pieces c.args.batch.now c.args.report.now)) (AppendsPart-front _ _ _ _ (AppendsPart-front _ _ _ _ part)))

pub returns-in_err-put_side-2-clause-bytes : goal.returns-in_err-put_side-2-clause-bytes
returns-in_err-put_side-2-clause-bytes g c =
    let p = err_from_is_err_and c.from_residual-in_err-put_side-2.result c.from_residual-in_err-put_side-2.ensures.1 in
    let first = rw (c.left.ensures.states, c.left.ensures.transitions) at c.in_ok-put_side.ensures.bytes in
    let part = rw (c.right.ensures.states, c.right.ensures.transitions) at c.in_err-put_side-2.ensures.bytes in
    rw p.1 (subst (AppendsPart _ _) (sym (extents-pieces c.args.batch.now c.args.report.now))
    (AppendsPart-front _ _ _ _ (pending-part _ _ _ _ _ _ first part)))

pub returns-clause-bytes : goal.returns-clause-bytes
returns-clause-bytes g c =
    let first = rw (c.left.ensures.states, c.left.ensures.transitions) at c.in_ok-put_side.ensures.bytes in
    let second = rw (c.right.ensures.states, c.right.ensures.transitions) at c.in_ok-put_side-2.ensures.bytes in
    let sides = pending-more _ _ _ _ _ _ _ first second in
    subst (Puts _ _ _ _) (sym (extents-pieces c.args.batch.now c.args.report.now)) (puts-more _ _ _ _ _ _ _ _ sides c.put_game.ensures.bytes)
