-- The number and the word, the label, and the number of the next node are the line.
use Rattle.std.proofs.Common.{◌∙◌, sym, subst}
use Rattle.std.proofs.lemmas.Result.{err_from_is_err_and}
use Rattle.spectro_io.specs.Batches.{Puts}
use Rattle.spectro_io.specs.Bytes.{AppendsPart}
use Rattle.spectro_io.proofs.Written.{AppendsPart-front}
use Rattle.spectro_io.proofs.Batches.{pending-more, puts-more, puts-stopped}
use Rattle.spectro_hmltext.proofs.WrittenSheets.{observation-pieces}
use Rattle.spectro_hmltext.proofs.sheet_writer.put_observation.Goals as goal

pub returns-in_err-put_all-clause-bytes : goal.returns-in_err-put_all-clause-bytes
returns-in_err-put_all-clause-bytes g c =
    let p = err_from_is_err_and c.from_residual.result c.from_residual.ensures.1 in
    rw p.1 (subst (AppendsPart _ _) (sym (observation-pieces c.args.batch.now c.args.number c.args.label.now c.args.next))
    (AppendsPart-front _ _ _ _ (AppendsPart-front _ _ _ _ (rw (c.as_bytes.ensures ∙ c.digits.ensures) at c.in_err-put_all.ensures.bytes))))

pub returns-in_err-put_label-clause-bytes : goal.returns-in_err-put_label-clause-bytes
returns-in_err-put_label-clause-bytes g c =
    let p = err_from_is_err_and c.from_residual-in_err-put_label.result c.from_residual-in_err-put_label.ensures.1 in
    rw p.1 (puts-stopped _ _ _ _ _ _ _ _ (observation-pieces c.args.batch.now c.args.number c.args.label.now c.args.next)
    (rw (c.as_bytes.ensures ∙ c.digits.ensures) at c.in_ok-put_all.ensures.bytes) c.in_err-put_label.ensures.bytes)

pub returns-clause-bytes : goal.returns-clause-bytes
returns-clause-bytes g c =
    let front = rw (c.as_bytes.ensures ∙ c.digits.ensures) at c.in_ok-put_all.ensures.bytes in
    let all = puts-more _ _ _ _ _ _ _ _ (pending-more _ _ _ _ _ _ _ front c.in_ok-put_label.ensures.bytes)
    (rw (c.as_bytes-2.ensures ∙ c.digits-2.ensures) at c.put_all-2.ensures.bytes) in
    subst (Puts _ _ _ _) (sym (observation-pieces c.args.batch.now c.args.number c.args.label.now c.args.next)) all
