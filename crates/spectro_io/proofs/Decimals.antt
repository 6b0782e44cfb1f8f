-- Numbers in decimal: what is read of one, and that what is written of one is a number of the same value.
use Rattle.std.proofs.Common.{◌≡◌, ◌∙◌, ℕ, ◌+◌, ◌-◌, ◌*◌, ◌/◌, ◌%◌, ◌^◌, ◌<◌, ◌≤◌, true, List, [], ◌∷◌, ◌++◌, length, Some, None, refl, sym, arith}
use Rattle.std.specs.Char.{is_ascii_digit}
use Rattle.std.specs.Fmt.{decimal}
use Rattle.std.specs.List.{list_all}
use Rattle.std.proofs.lemmas.Bool.{and_from, cond-true, lt-ltb}
use Rattle.std.proofs.lemmas.Fmt.{decimal_by_steps, decimal_nonempty}
use Rattle.std.proofs.lemmas.Grind.{common_steps}
use Rattle.std.proofs.lemmas.List.Folds.{list_all-append}
use Rattle.std.proofs.lemmas.List.Sums.{fold-append}
use Rattle.std.proofs.lemmas.Option.{cond_some}
use Rattle.spectro_io.specs.Numbers.{is_number, number_value, capped, number_of}

-- ---- read
pub number_of-number : (digits : List ℕ) → is_number digits ≡ true → number_of digits ≡ Some (capped (number_value digits))
number_of-number digits number = cond-true (is_number digits) (Some (capped (number_value digits))) None number

pub number_of-found : (digits : List ℕ) (number : ℕ) → Some number ≡ number_of digits → (is_number digits ≡ true) × (number ≡ capped (number_value digits))
number_of-found digits number found =
    let parts = cond_some (is_number digits) (capped (number_value digits)) number (sym found) in
    (parts.0, sym parts.1)

-- ---- written
-- digits of the number
pub record IsDigitsOf (number : ℕ) (text : List ℕ) : Type 0 where
  pub digits : list_all is_ascii_digit text ≡ true
  pub value : number_value text ≡ number

digit_of : (digit : ℕ) → digit < 10 → is_ascii_digit (48 + digit) ≡ true
digit_of digit small = grind (arith, common_steps)

digits_of_one : (number : ℕ) → number < 10 → IsDigitsOf number ((48 + number) ∷ [])
digits_of_one number small = record { digits = and_from _ _ (digit_of number small) refl; value = omega arith }

digits_of_more : (number : ℕ) (text : List ℕ) → 10 ≤ number → IsDigitsOf (number / 10) text → IsDigitsOf number (text ++ (48 + number % 10) ∷ [])
digits_of_more number text big front = record {
  digits = list_all-append is_ascii_digit text ((48 + number % 10) ∷ []) ∙ and_from _ _ front.digits (and_from _ _ (digit_of (number % 10) (omega arith)) refl);
  value = let pushed = fold-append (λ value digit. 10 * value + (digit - 48)) 0 text ((48 + number % 10) ∷ []) in omega (arith, pushed, front.value);
}

pub digits_of : (number : ℕ) → number < 2 ^ 64 → IsDigitsOf number (decimal number)
digits_of number small = decimal_by_steps IsDigitsOf digits_of_one digits_of_more number small

pub is_number-decimal : (number : ℕ) → number < 2 ^ 64 → is_number (decimal number) ≡ true
is_number-decimal number small = and_from _ _ (lt-ltb 0 (length (decimal number)) (decimal_nonempty number small)) (digits_of number small).digits
