-- A number in decimal is a field of a line, also behind a space.
use Rattle.std.proofs.Common.{◌≡◌, ◌∙◌, ℕ, ◌^◌, ◌<◌, ◌≤◌, true, List, [], ◌∷◌, length, refl, sym, ap, arith}
use Rattle.std.specs.Prelude.{reverse}
use Rattle.std.specs.Char.{is_ascii_digit}
use Rattle.std.specs.Fmt.{decimal}
use Rattle.std.specs.List.{list_all}
use Rattle.std.proofs.lemmas.Bool.{and_parts}
use Rattle.std.proofs.lemmas.Fmt.{length-decimal-le}
use Rattle.std.proofs.lemmas.List.{reverse-reverse}
use Rattle.spectro_io.specs.Blanks.{skip_blanks, trimmed}
use Rattle.spectro_io.specs.Numbers.{is_number, number_value}
use Rattle.spectro_io.proofs.Blanks.{list_all-reverse}
use Rattle.spectro_io.proofs.Decimals.{digits_of, is_number-decimal}
use Rattle.spectro_io.proofs.Tokens.{digit-no_blank}
use Rattle.spectro_aut.specs.Fields.{IsNumberField}
use Rattle.spectro_aut.proofs.FieldLaws.{Lacks, number_lacks, is_ascii_byte, number_is_ascii}

-- ---- digits have no blanks to be trimmed
skip_blanks-digits : (text : List ℕ) → list_all is_ascii_digit text ≡ true → skip_blanks text ≡ text
skip_blanks-digits [] digits = refl
skip_blanks-digits (byte ∷ text) digits =
    let parts = and_parts (is_ascii_digit byte) (list_all is_ascii_digit text) digits in
    rw (digit-no_blank byte parts.0) refl

trimmed-digits : (text : List ℕ) → list_all is_ascii_digit text ≡ true → trimmed text ≡ text
trimmed-digits text digits =
    ap (λ text. reverse (skip_blanks (reverse text))) (skip_blanks-digits text digits)
    ∙ ap reverse (skip_blanks-digits (reverse text) (list_all-reverse is_ascii_digit text digits))
    ∙ reverse-reverse text

-- ---- the number as a field
pub decimal_field : (number : ℕ) → number < 2 ^ 64 → IsNumberField (decimal number) number
decimal_field number small =
    let same = digits_of number small in
    let core : trimmed (decimal number) ≡ decimal number = trimmed-digits (decimal number) same.digits in
    record {
      digits = ap is_number core ∙ is_number-decimal number small;
      value = sym (ap number_value core ∙ same.value);
    }

pub spaced_field : (number : ℕ) → number < 2 ^ 64 → IsNumberField (32 ∷ decimal number) number
spaced_field number small = let field = decimal_field number small in record { digits = field.digits; value = field.value }

-- no byte of the number ends a line or is beyond ASCII
pub Lacks-decimal : (number : ℕ) → number < 2 ^ 64 → Lacks (decimal number) 10
Lacks-decimal number small = number_lacks (decimal number) number 10 (decimal_field number small) refl

pub list_all-decimal : (number : ℕ) → number < 2 ^ 64 → list_all is_ascii_byte (decimal number) ≡ true
list_all-decimal number small = number_is_ascii (decimal number) number (decimal_field number small)

pub length-decimal : (number : ℕ) → number ≤ 1000000 → length (decimal number) ≤ 7
length-decimal number few = length-decimal-le 7 number (omega arith) (omega arith) (omega arith)
