use Rattle.std.proofs.Common.{◌/◌, ◌%◌, get_or, arith}
use Rattle.spectro_eval.proofs.Bits.{bit_test}
use Rattle.spectro_eval.proofs.row.bit_of.Goals as goal

pub returns : goal.returns
returns c = bit_test (get_or c.args.row.now (c.args.state / 64) 0) (c.args.state % 64) (omega arith)
