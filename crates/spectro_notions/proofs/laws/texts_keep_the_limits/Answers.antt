use Rattle.spectro_notions.proofs.Texts.{IsTable-text}
use Rattle.spectro_notions.proofs.laws.texts_keep_the_limits.Goals as goal

pub returns : goal.returns
returns c = IsTable-text
