-- Where a label in quotes ends, behind its opening quote, character by character.
use Rattle.std.specs.Prelude.{ℕ, ◌≡◌, ◌≢◌, ◌+◌, ◌<◌, ◌≤◌, List, ◌∷◌, ◌++◌, length, Contains}
use Rattle.std.specs.Str.{IsUtf8}
use Rattle.spectro_spec.specs.System.{Label, IsLabel}
use Rattle.spectro_io.specs.QuotedLabels.{escaped}
use Rattle.spectro_hmltext.specs.declared.error.TextKind.{TextKind}
use Rattle.spectro_hmltext.specs.declared.error.TextKind.TheVariants.{BadLabel}
use Rattle.spectro_hmltext.specs.Faults.{IsCutLabel}
use Rattle.spectro_io.specs.declared.quoted.TheConstants.{MAX_LABEL_BYTES}

-- the quote that ends the label stands at this place
pub record IsClosedAt (inside : List ℕ) (end : ℕ) : Type 0 where
  pub label : Label
  pub rest : List ℕ
  pub whole : inside ≡ escaped label ++ 34 ∷ rest
  pub place : end ≡ length (escaped label)
  pub is_label : IsLabel label

-- some bytes of a label are without fault, and then the text has one
pub record IsCutBehind (inside left : List ℕ) (kind : TextKind) : Type 0 where
  pub label : Label
  pub after : List ℕ
  pub whole : inside ≡ escaped label ++ after
  pub is_label : IsLabel label
  pub cut : IsCutLabel label after left kind

-- a quote stands at the front of the text
abbrev pub BeginsWithQuote : List ℕ → Type 0
BeginsWithQuote text = (rest : List ℕ) × (text ≡ 34 ∷ rest)

-- a character that is no quote, no backslash and no LF stands at the front of the text
abbrev pub BeginsPlain : List ℕ → Type 0
BeginsPlain text = (byte : ℕ) × (rest : List ℕ) × (text ≡ byte ∷ rest) × (byte ≢ 34) × (byte ≢ 92) × (byte ≢ 10)

-- a character of a label stands at the front of the text, with its escape, and the rest behind it; the label has so many bytes before it, and so many with it
pub record IsTaken (text : List ℕ) (before bytes : ℕ) (rest : List ℕ) : Type 0 where
  pub character : List ℕ
  pub whole : text ≡ escaped character ++ rest
  pub some : 0 < length character
  pub added : bytes ≡ before + length character
  pub short : bytes ≤ MAX_LABEL_BYTES
  pub one_line : ¬ Contains character 10
  pub utf8 : IsUtf8 rest

-- after a label of so many bytes the text goes on with a fault
abbrev pub IsCharacterFault : List ℕ → ℕ → List ℕ → TextKind → Type 0
IsCharacterFault text bytes left kind = (label : Label) → length label ≡ bytes → IsCutLabel label text left kind

-- the label has too many bytes, and the text is what is left
abbrev pub IsTooLong : List ℕ → ℕ → List ℕ → TextKind → Type 0
IsTooLong text bytes left kind = (left ≡ text) × (kind ≡ BadLabel) × (MAX_LABEL_BYTES < bytes)
