-- Laws of the words: what is read of them is the command of the grammar, and there is at most one.
use Rattle.std.specs.Prelude.{◌≡◌, ◌↔◌, List, Some}
use Rattle.spectro_words.specs.Words.{Word}
use Rattle.spectro_words.specs.Commands.{Command}
use Rattle.spectro_words.specs.Grammar.{IsCommand}
use Rattle.spectro_words.specs.Reading.{command}

-- a command is read of words exactly where they are that command
abbrev pub CommandsAreFilledForms : Type 0
CommandsAreFilledForms = (words : List Word) (asked : Command) → (command words ≡ Some asked) ↔ IsCommand words asked

-- words are at most one command
abbrev pub WordsAreAtMostOneCommand : Type 0
WordsAreAtMostOneCommand = (words : List Word) (one other : Command) → IsCommand words one → IsCommand words other → one ≡ other
