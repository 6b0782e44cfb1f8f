use Rattle.spectro_words.proofs.FilledForms.{command_is, command_read}
use Rattle.spectro_words.proofs.laws.commands_are_filled_forms.Goals as goal

pub returns : goal.returns
returns c = λ words asked. (command_is words asked, command_read words asked)
