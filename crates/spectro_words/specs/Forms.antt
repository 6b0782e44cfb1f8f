-- Forms of words: a verb, places that are all filled, and options that may be left out.
use Rattle.std.specs.Prelude.{ℕ, ◌≡◌, List, [], ◌∷◌, ◌++◌, length, Option, Some, None}
use Rattle.spectro_words.specs.Words.{Word}
use Rattle.spectro_words.specs.Commands.{Command}

-- a verb, the number of places, the names of the options in their order, and which command the words in the places and
-- those of the options are, if they are one
pub record Form : Type 0 where
  pub verb : Word
  pub places : ℕ
  pub options : List Word
  pub command : List Word → List (Option Word) → Option Command

-- the words of the options, in their order: the name and the word of each that is given
abbrev pub words_of_options : List Word → List (Option Word) → List Word
words_of_options (name ∷ names) (Some word ∷ given) = name ∷ (word ∷ words_of_options names given)
words_of_options (name ∷ names) (None ∷ given) = words_of_options names given
words_of_options names given = []

-- the words are the verb of the form, then a word in each place, and then the options that are given
pub record Fill (words : List Word) (form : Form) (placed : List Word) (given : List (Option Word)) : Type 0 where
  pub places : length placed ≡ form.places
  pub options : length given ≡ length form.options
  pub written : words ≡ form.verb ∷ (placed ++ words_of_options form.options given)
