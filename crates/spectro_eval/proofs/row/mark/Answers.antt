use Rattle.spectro_eval.proofs.Bits.{bits_of-mark}
use Rattle.spectro_eval.proofs.row.mark.Goals as goal

pub returns : goal.returns
returns c = λ states. bits_of-mark states c.args.row.now c.args.state c.args.set c.from.result c.requires c.from.ensures
