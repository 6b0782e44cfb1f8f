-- Numbers that words ask for, from 1 to a greatest one.
use Rattle.std.specs.Prelude.{ℕ, ◌&&◌, nat_le, ◌≤◌, length, Option, None, Some, if◌then◌else◌}
use Rattle.spectro_io.specs.Numbers.{is_number, number_value}
use Rattle.spectro_words.specs.Words.{Word}
use Rattle.spectro_words.specs.declared.numbers.TheConstants.{MAX_DIGITS}

-- the number is from 1 to the greatest one
abbrev pub IsUpTo : ℕ → ℕ → Type 0
IsUpTo greatest number = (1 ≤ number) × (number ≤ greatest)

-- the number that the word asks for: one from 1 to the greatest one, in so many digits at most
abbrev pub number_up_to : ℕ → Word → Option ℕ
number_up_to greatest word =
    if is_number word && nat_le (length word) MAX_DIGITS && nat_le 1 (number_value word) && nat_le (number_value word) greatest
    then Some (number_value word) else None
