-- A text is in quotes or is not, and a label stands between quotes or none does.
use Rattle.std.proofs.Common.{◌≡◌, ◌⊎◌, inl, inr, ℕ, ◌+◌, false, List, [], ◌∷◌, length, take, drop, Option, None, Some, refl}
use Rattle.std.specs.Str.{bytes_eq}
use Rattle.std.proofs.lemmas.Bool.{cases_Bool, cases_lt}
use Rattle.spectro_io.specs.ClosingQuotes.{closing_from}
use Rattle.spectro_io.specs.QuotedLabels.{BeginsInQuotes, IsInQuotes, IsQuoted}
use Rattle.spectro_io.specs.Unescaping.{unescaped_behind}
use Rattle.spectro_io.proofs.ClosingQuotes.{found-quotes, in_quotes-begin, not-opened, not-unclosed, opens_with, quotes-once}
use Rattle.spectro_io.proofs.QuotedLabels.{found-IsQuoted, not_long, not_none}

-- the text begins in quotes, or does not
pub quotes-cases : (text : List ℕ)
    → ((inside : List ℕ) × (rest : List ℕ) × BeginsInQuotes text inside rest) ⊎ ((inside rest : List ℕ) → ¬ BeginsInQuotes text inside rest)
quotes-cases text =
    elim (cases_Bool (bytes_eq (take 1 text) (34 ∷ []))) [
      | inl opens ↦ by (closing_from 0 false (drop 1 text)) refl (opens_with text (drop 1 text) opens refl)
      | inr other ↦ inr (not-opened text other)
    ]
  where
    by : (closing : Option ℕ) → closing ≡ closing_from 0 false (drop 1 text) → text ≡ 34 ∷ drop 1 text
        → ((inside : List ℕ) × (rest : List ℕ) × BeginsInQuotes text inside rest) ⊎ ((inside rest : List ℕ) → ¬ BeginsInQuotes text inside rest)
    by (Some found) is opens = inl (take found (drop 1 text), drop (found + 1) (drop 1 text), found-quotes text (drop 1 text) opens found is)
    by None none opens = inr (not-unclosed text (drop 1 text) opens none)

-- the text is in quotes, or is not
pub in_quotes-cases : (text : List ℕ) → ((inside : List ℕ) × IsInQuotes text inside) ⊎ ((inside : List ℕ) → ¬ IsInQuotes text inside)
in_quotes-cases text =
    elim (quotes-cases text) [
      | inl begins ↦ by begins.0 begins.1 begins.2
      | inr none ↦ inr (λ inside is. none inside [] (in_quotes-begin text inside is))
    ]
  where
    by : (inside rest : List ℕ) → BeginsInQuotes text inside rest
        → ((inside : List ℕ) × IsInQuotes text inside) ⊎ ((inside : List ℕ) → ¬ IsInQuotes text inside)
    by inside [] begins = inl (inside, record { whole = begins.whole; closed = begins.closed })
    by inside (byte ∷ rest) begins = inr
        (λ other is. let none : byte ∷ rest ≡ [] = (quotes-once text inside (byte ∷ rest) other [] begins (in_quotes-begin text other is)).1 in cc)

-- what stands between the quotes is of a label, or of none
pub label-cases : (inside : List ℕ) → ((label : List ℕ) × IsQuoted inside label) ⊎ ((label : List ℕ) → ¬ IsQuoted inside label)
label-cases inside = by (unescaped_behind false inside) refl
  where
    by : (read : Option (List ℕ)) → read ≡ unescaped_behind false inside
        → ((label : List ℕ) × IsQuoted inside label) ⊎ ((label : List ℕ) → ¬ IsQuoted inside label)
    by None none = inr (λ label is. not_none inside label is none)
    by (Some found) is =
        elim (cases_lt 8192 (length found)) [
          | inl long ↦ inr (λ label quoted. not_long inside label quoted found is long)
          | inr short ↦ inl (found, found-IsQuoted inside found is short)
        ]
