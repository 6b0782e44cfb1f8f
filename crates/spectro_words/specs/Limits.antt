-- The limit of positions.
use Rattle.std.specs.Prelude.{ℕ, Option, Some, None}
use Rattle.spectro_words.specs.Numbers.{IsUpTo, number_up_to}
use Rattle.spectro_words.specs.Words.{Word}
use Rattle.spectro_words.specs.declared.limit.TheConstants.{DEFAULT_LIMIT, MAX_LIMIT}

-- a limit is a number from 1 to the greatest one
abbrev pub IsLimit : ℕ → Type 0
IsLimit limit = IsUpTo MAX_LIMIT limit

-- the limit that the word asks for, or the default one where no word does
abbrev pub limit_of : Option Word → Option ℕ
limit_of None = Some DEFAULT_LIMIT
limit_of (Some word) = number_up_to MAX_LIMIT word
