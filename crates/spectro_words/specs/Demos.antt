-- The numbers of demos.
use Rattle.std.specs.Prelude.{ℕ, Option}
use Rattle.spectro_words.specs.Numbers.{IsUpTo, number_up_to}
use Rattle.spectro_words.specs.Words.{Word}
use Rattle.spectro_words.specs.declared.demo.TheConstants.{MAX_DEMO}

-- a demo has a number from 1 to the greatest one
abbrev pub IsDemo : ℕ → Type 0
IsDemo number = IsUpTo MAX_DEMO number

-- the number of the demo that the word asks for
abbrev pub demo_number_of : Word → Option ℕ
demo_number_of word = number_up_to MAX_DEMO word
