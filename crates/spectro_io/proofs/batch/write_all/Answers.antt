-- What was put is flushed.
use Rattle.spectro_io.proofs.Batches.{pending-whole}
use Rattle.spectro_io.proofs.batch.write_all.Goals as goal

pub returns-clause-bytes : goal.returns-clause-bytes
returns-clause-bytes g c = pending-whole _ _ _ _ _ _ (rw c.new-batch.ensures at c.in_ok-put_all.ensures.bytes) c.flush.ensures.bytes
