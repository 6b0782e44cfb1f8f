use Rattle.std.proofs.Common.{subst}
use Rattle.spectro_lines.specs.Feeding.{IsTold}
use Rattle.spectro_notions.specs.NotionTexts.{notion_form}
use Rattle.spectro_notions.proofs.reader.read_notions.Goals as goal

pub returns-in-Err-Text-clause-refused : goal.returns-in-Err-Text-clause-refused
returns-in-Err-Text-clause-refused c = subst (IsTold notion_form c.args.bytes.now) c.in-Err-Text.field-0-is c.in-Err-Text.ensures.refused
