-- Numbers in a row, with spaces between them.
use Rattle.std.proofs.Common.{◌≡◌, ◌∙◌, ℕ, ◌-◌, ◌≤◌, List, [], ◌∷◌, ◌++◌, length, map, take, drop, get_or, sym, ap, arith, append-nil}
use Rattle.std.specs.Fmt.{decimal}
use Rattle.std.specs.List.{flat_map, join_with_byte}
use Rattle.std.proofs.lemmas.List.{take_all}
use Rattle.spectro_notation.specs.Prices.{next_text}

-- the first number, and each of the others behind a space
row-first : (first : ℕ) (others : List ℕ) → join_with_byte 32 (map decimal (first ∷ others)) ≡ decimal first ++ flat_map next_text others
row-first first [] = sym (append-nil (decimal first))
row-first first (next ∷ others) = ap (λ rest. decimal first ++ 32 ∷ rest) (row-first next others)

pub row-parts : (numbers : List ℕ) → 1 ≤ length numbers
    → join_with_byte 32 (map decimal numbers) ≡ decimal (get_or numbers 0 0) ++ flat_map next_text (take (length numbers - 1) (drop 1 numbers))
row-parts [] some = absurd (omega arith)
row-parts (first ∷ others) some = row-first first others
    ∙ ap (λ rest. decimal first ++ flat_map next_text rest) (sym (take_all (length (first ∷ others) - 1) others (omega arith)))
