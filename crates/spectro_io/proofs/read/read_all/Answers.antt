-- Nothing was taken before, so that the bytes are just those that were read.
use Rattle.spectro_io.proofs.ReadFront.{left_read}
use Rattle.spectro_io.specs.Limits.{read_limit}
use Rattle.spectro_io.proofs.read.read_all.Goals as goal

pub returns-clause-all : goal.returns-clause-all
returns-clause-all g c =
    let into = c.in_ok-read_into.ensures.all in
    rw (into.taken _ c.new-bytes.ensures.items) into.read

pub returns-clause-bytes : goal.returns-clause-bytes
returns-clause-bytes g c =
    let into = c.in_ok-read_into.ensures.all in
    rw (into.taken _ c.new-bytes.ensures.items) (left_read read_limit _ _ into.bytes into.read.front into.read.within into.read.end)
