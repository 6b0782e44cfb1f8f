use Rattle.spectro_io.proofs.Batches.{puts-past}
use Rattle.spectro_io.proofs.batch.Batch.put.Goals as goal

-- the bytes are too many to be held
pub returns-then-bytes-gt-MOST-clause-bytes : goal.returns-then-bytes-gt-MOST-clause-bytes
returns-then-bytes-gt-MOST-clause-bytes g c = rw c.flush.ensures.held (puts-past _ _ _ _ _ _ c.in_ok-flush.ensures.bytes c.write_whole.ensures.bytes)
