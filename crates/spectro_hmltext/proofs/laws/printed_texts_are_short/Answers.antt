use Rattle.spectro_hmltext.proofs.PrintedLengths.{printed_is_short}
use Rattle.spectro_hmltext.proofs.laws.printed_texts_are_short.Goals as goal

pub returns : goal.returns
returns c = printed_is_short
