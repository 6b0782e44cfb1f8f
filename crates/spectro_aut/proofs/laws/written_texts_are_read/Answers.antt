use Rattle.spectro_aut.proofs.RoundTrips.{written_is_text}
use Rattle.spectro_aut.proofs.laws.written_texts_are_read.Goals as goal

pub returns : goal.returns
returns c = written_is_text
