use Rattle.std.proofs.lemmas.Result.{err_from_is_err_and}
use Rattle.spectro_io.proofs.Written.{AppendsPart-front}
use Rattle.spectro_io.proofs.Batches.{pending-more, pending-part, pending-whole}
use Rattle.spectro_run.proofs.commands.eval.EvaluatedWritten.write.Goals as goal

pub returns-in_err-put-clause-bytes : goal.returns-in_err-put-clause-bytes
returns-in_err-put-clause-bytes g c =
    let p = err_from_is_err_and c.from_residual.result c.from_residual.ensures.1 in
    rw p.1 (AppendsPart-front _ _ _ _ (rw (c.new-batch.ensures, c.truth_line.ensures) at c.in_err-put.ensures.bytes))

pub returns-in_err-put_price_line-clause-bytes : goal.returns-in_err-put_price_line-clause-bytes
returns-in_err-put_price_line-clause-bytes g c =
    let p = err_from_is_err_and c.from_residual-in_err-put_price_line.result c.from_residual-in_err-put_price_line.ensures.1 in
    let truth = rw (c.new-batch.ensures, c.truth_line.ensures) at c.in_ok-put.ensures.bytes in
    rw p.1 (pending-part _ _ _ _ _ _ truth c.in_err-put_price_line.ensures.bytes)

pub returns-clause-bytes : goal.returns-clause-bytes
returns-clause-bytes g c =
    let truth = rw (c.new-batch.ensures, c.truth_line.ensures) at c.in_ok-put.ensures.bytes in
    pending-whole _ _ _ _ _ _ (pending-more _ _ _ _ _ _ _ truth c.in_ok-put_price_line.ensures.bytes) c.flush.ensures.bytes
