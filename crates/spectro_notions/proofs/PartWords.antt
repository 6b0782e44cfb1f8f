-- Words of names and of parts: a word is of one part at most, and the code finds it.
use Rattle.std.proofs.Common.{◌≡◌, ◌∙◌, ℕ, ◌<◌, Bool, true, false, List, [], ◌∷◌, length, refl, sym, ap, subst, inl, inr, arith}
use Rattle.std.specs.Prelude.{Option, None, Some, ◌⊎◌, ◌&&◌, nat_le, nat_lt, codes, All}
use Rattle.std.specs.List.{list_all, list_any}
use Rattle.std.specs.Option.{option_map}
use Rattle.std.specs.Str.{IsUtf8, bytes_eq}
use Rattle.std.proofs.lemmas.Bool.{and_parts, both_ways, false_from_ne_true, or_from, true≢false, ltb-true}
use Rattle.std.proofs.lemmas.List.Elements.{All-cons, All-nil}
use Rattle.std.proofs.lemmas.Option.{none-some, same_Some}
use Rattle.std.proofs.lemmas.Slice.Eq.{bytes_eq-Decides}
use Rattle.std.proofs.lemmas.Str.{IsUtf8-from_ascii}
use Rattle.std.proofs.lemmas.Str.Ascii.{IsAscii-from_all}
use Rattle.std.proofs.lemmas.Grind.{common_steps}
use Rattle.spectro_io.specs.Blanks.{is_blank}
use Rattle.spectro_io.specs.Numbers.{is_number, number_value, number_of}
use Rattle.spectro_io.proofs.Decimals.{number_of-number, number_of-found}
use Rattle.spectro_io.proofs.Tokens.{IsWord, number-IsWord}
use Rattle.spectro_notions.specs.LineReading.{capped_part, part_in}
use Rattle.spectro_notions.specs.NotionLines.{IsPart, is_name, is_name_byte}

-- ---- names
name_byte-no_blank : (byte : ℕ) → is_name_byte byte ≡ true → is_blank byte ≡ false
name_byte-no_blank byte is = grind (arith, common_steps)

name_byte-ascii : (byte : ℕ) → is_name_byte byte ≡ true → byte < 128
name_byte-ascii byte is = grind (arith, common_steps)

name_bytes-no_blank : (name : List ℕ) → list_all is_name_byte name ≡ true → list_any is_blank name ≡ false
name_bytes-no_blank [] all = refl
name_bytes-no_blank (byte ∷ name) all =
    let parts = and_parts (is_name_byte byte) (list_all is_name_byte name) all in
    or_from (is_blank byte) (list_any is_blank name) (name_byte-no_blank byte parts.0) (name_bytes-no_blank name parts.1)

name_bytes-ascii : (name : List ℕ) → list_all is_name_byte name ≡ true → All (λ byte. byte < 128) name
name_bytes-ascii [] all = All-nil _
name_bytes-ascii (byte ∷ name) all =
    let parts = and_parts (is_name_byte byte) (list_all is_name_byte name) all in
    All-cons (λ byte. byte < 128) byte name (name_byte-ascii byte parts.0) (name_bytes-ascii name parts.1)

name-bytes : (name : List ℕ) → is_name name ≡ true → (nat_lt 0 (length name) ≡ true) × (list_all is_name_byte name ≡ true)
name-bytes name is =
    let parts = and_parts (nat_lt 0 (length name) && nat_le (length name) 64) (list_all is_name_byte name) is in
    ((and_parts (nat_lt 0 (length name)) (nat_le (length name) 64) parts.0).0, parts.1)

-- a name is a word
pub name-IsWord : (name : List ℕ) → is_name name ≡ true → IsWord name
name-IsWord name is =
    let parts = name-bytes name is in
    record { some = ltb-true 0 (length name) parts.0; no_blank = name_bytes-no_blank name parts.1 }

pub name-IsUtf8 : (name : List ℕ) → is_name name ≡ true → IsUtf8 name
name-IsUtf8 name is = IsUtf8-from_ascii name (IsAscii-from_all name (name_bytes-ascii name (name-bytes name is).1))

-- ---- parts
abbrev star : List ℕ
star = codes "*"

pub part-IsWord : (word : List ℕ) (part : Option ℕ) → IsPart word part → IsWord word
part-IsWord word None is = subst IsWord (sym is) (record { some = omega arith; no_blank = refl })
part-IsWord word (Some most) is = number-IsWord word is.0

-- the sign for no bound is no number
number-other : (word : List ℕ) → is_number word ≡ true → bytes_eq word star ≡ false
number-other word number = false_from_ne_true (bytes_eq word star)
    (λ same. let none : is_number word ≡ false = ap is_number ((bytes_eq-Decides word star).0 same) in true≢false (sym number ∙ none))

pub part-once : (word : List ℕ) (one two : Option ℕ) → IsPart word one → IsPart word two → one ≡ two
part-once word None None first second = refl
part-once word None (Some most) first second = absurd (both_ways (is_number word) (ap is_number first) second.0)
part-once word (Some most) None first second = absurd (both_ways (is_number word) (ap is_number second) first.0)
part-once word (Some most) (Some other) first second = ap Some (first.1 ∙ sym second.1)

pub part_in-part : (word : List ℕ) (part : Option ℕ) → IsPart word part → part_in word ≡ Some (capped_part part)
part_in-part word None is = rw is refl
part_in-part word (Some most) is = rw (number-other word is.0, number_of-number word is.0, is.1) refl

part_in-number : (word : List ℕ) (found : Option ℕ) → option_map Some (number_of word) ≡ Some found
    → (part : Option ℕ) × IsPart word part × (found ≡ capped_part part)
part_in-number word found is = by (number_of word) refl
  where
    by : (number : Option ℕ) → number_of word ≡ number → (part : Option ℕ) × IsPart word part × (found ≡ capped_part part)
    by None none = absurd (none-some found (ap (option_map Some) (sym none) ∙ is))
    by (Some number) told =
        let parts = number_of-found word number (sym told) in
        let same : found ≡ Some number = sym (same_Some (Some number) found (ap (option_map Some) (sym told) ∙ is)) in
        (Some (number_value word), (parts.0, refl), same ∙ ap Some parts.1)

pub part_in-found : (word : List ℕ) (found : Option ℕ) → part_in word ≡ Some found → (part : Option ℕ) × IsPart word part × (found ≡ capped_part part)
part_in-found word found is = by (bytes_eq word star) refl
  where
    by : (b : Bool) → bytes_eq word star ≡ b → (part : Option ℕ) × IsPart word part × (found ≡ capped_part part)
    by true same = (None, (bytes_eq-Decides word star).0 same, sym (same_Some None found (rw same at is)))
    by false other = part_in-number word found (rw other at is)

-- the word is of a part, or of none
pub part-cases : (word : List ℕ) → ((part : Option ℕ) × IsPart word part) ⊎ ((part : Option ℕ) → ¬ IsPart word part)
part-cases word = by (part_in word) refl
  where
    by : (told : Option (Option ℕ)) → part_in word ≡ told → ((part : Option ℕ) × IsPart word part) ⊎ ((part : Option ℕ) → ¬ IsPart word part)
    by None none = inr (λ part is. none-some (capped_part part) (sym none ∙ part_in-part word part is))
    by (Some found) told = let is = part_in-found word found told in inl (is.0, is.1)
