use Rattle.std.proofs.Common.{subst}
use Rattle.spectro_lines.specs.Feeding.{IsTold}
use Rattle.spectro_weights.specs.WeightTexts.{weight_form}
use Rattle.spectro_weights.proofs.reader.read_weights.Goals as goal

pub returns-in-Err-Text-clause-refused : goal.returns-in-Err-Text-clause-refused
returns-in-Err-Text-clause-refused c = subst (IsTold weight_form c.args.bytes.now) c.in-Err-Text.field-0-is c.in-Err-Text.ensures.refused
