use Rattle.spectro_io.proofs.Batches.{pending-whole}
use Rattle.spectro_hmltext.proofs.sheet_writer.print_sheet.Goals as goal

pub returns-clause-bytes : goal.returns-clause-bytes
returns-clause-bytes g c = pending-whole _ _ _ _ _ _ (rw c.new-batch.ensures at c.in_ok-put_sheet.ensures.bytes) c.flush.ensures.bytes
