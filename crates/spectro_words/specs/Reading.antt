-- Words read as a command, by their form and option by option.
use Rattle.std.specs.Prelude.{nat_le, List, [], ◌∷◌, length, take, drop, find, Option, Some, None, option_and_then, if◌then◌else◌}
use Rattle.std.specs.Option.{option_map}
use Rattle.std.specs.Str.{bytes_eq}
use Rattle.spectro_words.specs.Words.{Word}
use Rattle.spectro_words.specs.Commands.{Command}
use Rattle.spectro_words.specs.Forms.{Form}
use Rattle.spectro_words.specs.Grammar.{forms}

-- the word of the option, if the words begin with its name
abbrev pub option_word : Word → List Word → Option Word
option_word name (first ∷ word ∷ words) = if bytes_eq first name then Some word else None
option_word name words = None

-- the words after the option, if they begin with its name
abbrev pub after_option : Word → List Word → List Word
after_option name (first ∷ word ∷ words) = if bytes_eq first name then words else (first ∷ word ∷ words)
after_option name words = words

-- the word of each option, if it is given, where the words are options in the order of the names and nothing else
abbrev pub options_of : List Word → List Word → Option (List (Option Word))
options_of [] [] = Some []
options_of [] words = None
options_of (name ∷ names) words = option_map (λ given. option_word name words ∷ given) (options_of names (after_option name words))

-- the command of the words after the verb of the form, if they fill it
abbrev pub command_of_form : List Word → Form → Option Command
command_of_form words form =
    if nat_le form.places (length words)
    then option_and_then (form.command (take form.places words)) (options_of form.options (drop form.places words)) else None

-- the command that the words are, if they are one
abbrev pub command : List Word → Option Command
command [] = None
command (verb ∷ words) = option_and_then (command_of_form words) (find (λ form. bytes_eq verb form.verb) forms)
