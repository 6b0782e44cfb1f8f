-- The place and the kind are the message.
use Rattle.std.proofs.lemmas.Result.{err_from_is_err_and}
use Rattle.spectro_io.proofs.Written.{AppendsPart-front}
use Rattle.spectro_io.proofs.Batches.{pending-more, pending-part, pending-whole}
use Rattle.spectro_run.specs.Messages.{kind_text, place_text}
use Rattle.spectro_run.proofs.message.write_fault.Goals as goal

pub returns-in_err-put_place-clause-bytes : goal.returns-in_err-put_place-clause-bytes
returns-in_err-put_place-clause-bytes g c =
    let p = err_from_is_err_and c.from_residual.result c.from_residual.ensures.1 in
    rw p.1 (AppendsPart-front _ _ (place_text c.args.name.now c.args.fault.at) (kind_text c.args.fault.kind)
    (rw c.new-batch.ensures at c.in_err-put_place.ensures.bytes))

pub returns-in_err-put_kind-clause-bytes : goal.returns-in_err-put_kind-clause-bytes
returns-in_err-put_kind-clause-bytes g c =
    let p = err_from_is_err_and c.from_residual-in_err-put_kind.result c.from_residual-in_err-put_kind.ensures.1 in
    rw p.1 (pending-part _ _ _ _ _ _ (rw c.new-batch.ensures at c.in_ok-put_place.ensures.bytes) c.in_err-put_kind.ensures.bytes)

pub returns-clause-bytes : goal.returns-clause-bytes
returns-clause-bytes g c =
    let place = rw c.new-batch.ensures at c.in_ok-put_place.ensures.bytes in
    pending-whole _ _ _ _ _ _ (pending-more _ _ _ _ _ _ _ place c.in_ok-put_kind.ensures.bytes) c.flush.ensures.bytes
