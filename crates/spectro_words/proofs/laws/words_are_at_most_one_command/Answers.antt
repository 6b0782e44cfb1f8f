use Rattle.spectro_words.proofs.FilledForms.{one_command}
use Rattle.spectro_words.proofs.laws.words_are_at_most_one_command.Goals as goal

pub returns : goal.returns
returns c = one_command
