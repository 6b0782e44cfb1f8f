use Rattle.spectro_aut.proofs.Texts.{length-text}
use Rattle.spectro_aut.proofs.laws.texts_are_short.Goals as goal

pub returns : goal.returns
returns c = length-text
