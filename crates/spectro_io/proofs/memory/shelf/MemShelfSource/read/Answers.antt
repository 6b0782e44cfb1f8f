use Rattle.std.proofs.Common.{◌+◌, length, ap}
use Rattle.spectro_io.specs.Entries.{left_of}
use Rattle.spectro_io.proofs.Reading.{reads-front}
use Rattle.spectro_io.proofs.Shelved.{left_of-more}
use Rattle.spectro_io.proofs.memory.shelf.MemShelfSource.read.Goals as goal

pub returns-clause-bytes : goal.returns-clause-bytes
returns-clause-bytes c =
    let s = c.self.inside in
    let count = c.copy_front-count.result in
    let before = ap (λ state. state.left) c.self.view_is in
    rw (← before) (reads-front c.left_bytes-left.result.now (left_of s.texts.entries s.current s.at)
    (left_of s.texts.entries s.current (s.at + count)) c.copy_front-count.new.buf s.most (length c.args.buf.now) count (c.left_bytes-left.ensures)
    (left_of-more s.texts.entries s.current s.at count) c.self.invariant.1 c.requires c.copy_front-count.ensures.count c.copy_front-count.ensures.front)
