-- The lines of the extents, of both directions and of the equivalences, one behind the other.
use Rattle.std.proofs.Common.{sym, subst}
use Rattle.std.proofs.lemmas.Result.{err_from_is_err_and}
use Rattle.spectro_io.specs.Batches.{Puts}
use Rattle.spectro_io.specs.Bytes.{AppendsPart}
use Rattle.spectro_io.proofs.Written.{AppendsPart-front}
use Rattle.spectro_io.proofs.Batches.{pending-more, pending-part, puts-more}
use Rattle.spectro_report.proofs.PutLines.{summary-pieces}
use Rattle.spectro_report.proofs.summary.put_summary.Goals as goal

pub returns-in_err-put_extents-clause-bytes : goal.returns-in_err-put_extents-clause-bytes
returns-in_err-put_extents-clause-bytes g c =
    let p = err_from_is_err_and c.from_residual.result c.from_residual.ensures.1 in
    rw p.1 (subst (AppendsPart _ _) (sym (summary-pieces c.args.batch.now c.args.report.now))
    (AppendsPart-front _ _ _ _ (AppendsPart-front _ _ _ _ (AppendsPart-front _ _ _ _ c.in_err-put_extents.ensures.bytes))))

pub returns-in_err-put_direction-clause-bytes : goal.returns-in_err-put_direction-clause-bytes
returns-in_err-put_direction-clause-bytes g c =
    let p = err_from_is_err_and c.from_residual-in_err-put_direction.result c.from_residual-in_err-put_direction.ensures.1 in
    let part = pending-part _ _ _ _ _ _ c.in_ok-put_extents.ensures.bytes (rw c.all_forth.ensures at c.in_err-put_direction.ensures.bytes) in
    rw p.1 (subst (AppendsPart _ _) (sym (summary-pieces c.args.batch.now c.args.report.now))
    (AppendsPart-front _ _ _ _ (AppendsPart-front _ _ _ _ part)))

pub returns-in_err-put_direction-2-clause-bytes : goal.returns-in_err-put_direction-2-clause-bytes
returns-in_err-put_direction-2-clause-bytes g c =
    let p = err_from_is_err_and c.from_residual-in_err-put_direction-2.result c.from_residual-in_err-put_direction-2.ensures.1 in
    let forth = pending-more _ _ _ _ _ _ _ c.in_ok-put_extents.ensures.bytes (rw c.all_forth.ensures at c.in_ok-put_direction.ensures.bytes) in
    let part = pending-part _ _ _ _ _ _ forth (rw c.all_back.ensures at c.in_err-put_direction-2.ensures.bytes) in
    rw p.1 (subst (AppendsPart _ _) (sym (summary-pieces c.args.batch.now c.args.report.now)) (AppendsPart-front _ _ _ _ part))

pub returns-clause-bytes : goal.returns-clause-bytes
returns-clause-bytes g c =
    let forth = pending-more _ _ _ _ _ _ _ c.in_ok-put_extents.ensures.bytes (rw c.all_forth.ensures at c.in_ok-put_direction.ensures.bytes) in
    let back = pending-more _ _ _ _ _ _ _ forth (rw c.all_back.ensures at c.in_ok-put_direction-2.ensures.bytes) in
    subst (Puts _ _ _ _) (sym (summary-pieces c.args.batch.now c.args.report.now))
    (puts-more _ _ _ _ _ _ _ _ back (rw (c.all_forth-2.ensures, c.all_back-2.ensures) at c.put_both.ensures.bytes))
