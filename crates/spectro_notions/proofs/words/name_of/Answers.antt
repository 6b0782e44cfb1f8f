use Rattle.std.proofs.lemmas.Bool.{false_from_ne_true}
use Rattle.spectro_notions.specs.NotionLines.{is_name}
use Rattle.spectro_notions.proofs.PartWords.{name-IsUtf8}
use Rattle.spectro_notions.proofs.words.name_of.Goals as goal

pub returns-in_default : goal.returns-in_default
returns-in_default c = false_from_ne_true (is_name c.args.word.now) (λ is. c.in_default.ensures.cases.0 (name-IsUtf8 c.args.word.now is))
