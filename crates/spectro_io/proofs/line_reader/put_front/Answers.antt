use Rattle.std.proofs.Common.{ap}
use Rattle.std.specs.Prelude.{is_ok}
use Rattle.spectro_io.proofs.Gathered.{put-take}
use Rattle.spectro_io.proofs.line_reader.put_front.Goals as goal

pub returns-clause-bytes : goal.returns-clause-bytes
returns-clause-bytes c =
    let put = c.extend_from_slice.ensures.items in
    let ok = ap is_ok c.unwrap.ensures in
    rw (put, ok, c.min-count.ensures, c.len.ensures, c.args.front.now.ok.0) (put-take 32770 c.args.front.now.items c.args.bytes.now (c.requires.within))
