-- The line of the number, and the summary behind it.
use Rattle.std.proofs.lemmas.Result.{err_from_is_err_and}
use Rattle.spectro_io.proofs.Written.{AppendsPart-front}
use Rattle.spectro_io.proofs.Batches.{pending-more, pending-part, pending-whole}
use Rattle.spectro_run.proofs.commands.demo.DemonstratedWritten.write.Goals as goal

pub returns-in_err-put_number-clause-bytes : goal.returns-in_err-put_number-clause-bytes
returns-in_err-put_number-clause-bytes g c =
    let p = err_from_is_err_and c.from_residual.result c.from_residual.ensures.1 in
    rw p.1 (AppendsPart-front _ _ _ _ (rw c.new-batch.ensures at c.in_err-put_number.ensures.bytes))

pub returns-in_err-put_summary-clause-bytes : goal.returns-in_err-put_summary-clause-bytes
returns-in_err-put_summary-clause-bytes g c =
    let p = err_from_is_err_and c.from_residual-in_err-put_summary.result c.from_residual-in_err-put_summary.ensures.1 in
    let line = rw c.new-batch.ensures at c.in_ok-put_number.ensures.bytes in
    rw p.1 (pending-part _ _ _ _ _ _ line c.in_err-put_summary.ensures.bytes)

pub returns-clause-bytes : goal.returns-clause-bytes
returns-clause-bytes g c =
    let line = rw c.new-batch.ensures at c.in_ok-put_number.ensures.bytes in
    pending-whole _ _ _ _ _ _ (pending-more _ _ _ _ _ _ _ line c.in_ok-put_summary.ensures.bytes) c.flush.ensures.bytes
