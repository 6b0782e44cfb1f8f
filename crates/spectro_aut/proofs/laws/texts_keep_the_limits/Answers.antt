use Rattle.spectro_aut.proofs.KeptLimits.{text_keeps_limits}
use Rattle.spectro_aut.proofs.laws.texts_keep_the_limits.Goals as goal

pub returns : goal.returns
returns c = text_keeps_limits
