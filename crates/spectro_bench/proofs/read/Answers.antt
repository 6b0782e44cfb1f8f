use Rattle.spectro_aut.proofs.KeptLimits.{text_keeps_limits}
use Rattle.spectro_bench.proofs.read.Goals as goal

pub returns-in-Ok : goal.returns-in-Ok
returns-in-Ok g c = text_keeps_limits c.as_bytes.result.now c.in-Ok.lts c.in-Ok.ensures.ok
