use Rattle.spectro_hmltext.proofs.PrintedReads.{printed_is_read}
use Rattle.spectro_hmltext.proofs.laws.printed_texts_are_read.Goals as goal

pub returns : goal.returns
returns c = printed_is_read
