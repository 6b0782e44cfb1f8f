use Rattle.spectro_aut.proofs.Utf8.{ok-utf8_of}
use Rattle.spectro_aut.proofs.transition.utf8_of.Goals as goal

pub returns : goal.returns
returns c = rw c.ok.ensures.value (ok-utf8_of c.args.bytes.now c.from_utf8.result _ c.from_utf8.ensures.cases)
