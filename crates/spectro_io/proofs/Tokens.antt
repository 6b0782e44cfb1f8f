-- The first token of a text, and words: each text begins with one word at most.
use Rattle.std.proofs.Common.{◌≡◌, ◌∙◌, ℕ, ◌<◌, Bool, true, false, List, [], ◌∷◌, ◌++◌, length, drop, refl, sym, ap, inl, inr, arith, append_assoc, append-nil, length-take}
use Rattle.std.specs.Prelude.{◌↔◌, ◌⊎◌, ◌==◌, not, nat_lt}
use Rattle.std.specs.Char.{is_ascii_digit}
use Rattle.std.specs.List.{list_all, list_any, before_first, position_or_len}
use Rattle.std.proofs.Math.Seq.{drop-append_seam}
use Rattle.std.proofs.lemmas.Bool.{and_parts, cases_Bool, or_cases, or_from, or_parts, eqb-true, ltb-true, true≢false}
use Rattle.std.proofs.lemmas.List.Sums.{take_while-cons, prefix_len-le-length}
use Rattle.spectro_io.specs.Blanks.{is_blank, skip_blanks, AreBlanks, IsApart}
use Rattle.spectro_io.specs.Numbers.{is_number}
use Rattle.spectro_io.specs.Tokens.{first_token, after_token}
use Rattle.spectro_io.proofs.Blanks.{blanks_before, skip_blanks-blanks, skip_blanks-none}
use Rattle.spectro_io.proofs.LineFeeds.{before-append}

-- ---- the first token
-- it is empty exactly where the line is of blanks alone
abbrev IsNoneOfBlanks : List ℕ → Type 0
IsNoneOfBlanks line = first_token line ≡ [] ↔ list_all is_blank line ≡ true

pub no_token : (line : List ℕ) → IsNoneOfBlanks line
no_token [] = (λ _. refl, λ _. refl)
no_token (byte ∷ line) = by_case (cases_Bool (is_blank byte)) (no_token line)
  where
    by_case : ((is_blank byte ≡ true) ⊎ (is_blank byte ≡ false)) → IsNoneOfBlanks line → IsNoneOfBlanks (byte ∷ line)
    by_case (inl blank) others = rw blank others
    by_case (inr other) _ = rw (other, take_while-cons (λ byte. not (is_blank byte)) byte line, other) (λ none. cc, λ all. cc)

-- a token ends where its first blank stands
pub length-first_token : (line : List ℕ) → length (first_token line) ≡ position_or_len is_blank (skip_blanks line)
length-first_token line = omega (
  arith,
  length-take (position_or_len is_blank (skip_blanks line)) (skip_blanks line),
  prefix_len-le-length (λ byte. not (is_blank byte))
      (skip_blanks line),
)

-- bytes are those before the first blank, and those from it on
record IsParted (bytes : List ℕ) : Type 0 where
  pub whole : bytes ≡ before_first is_blank bytes ++ drop (length (before_first is_blank bytes)) bytes
  pub apart : IsApart (drop (length (before_first is_blank bytes)) bytes)

parts_at_blank : (bytes : List ℕ) → IsParted bytes
parts_at_blank [] = record { whole = refl; apart = tt }
parts_at_blank (byte ∷ bytes) = by (is_blank byte) refl (parts_at_blank bytes)
  where
    by : (b : Bool) → is_blank byte ≡ b → IsParted bytes → IsParted (byte ∷ bytes)
    by true e later =
        let none : before_first is_blank (byte ∷ bytes) ≡ [] = rw (take_while-cons (λ byte. not (is_blank byte)) byte bytes, e) refl in
        record { whole = rw none refl; apart = rw none e }
    by false e later =
        let more : before_first is_blank (byte ∷ bytes) ≡ byte ∷ before_first is_blank bytes = rw
        (take_while-cons (λ byte. not (is_blank byte)) byte bytes, e) refl in
        record { whole = rw more (ap (λ l. byte ∷ l) later.whole); apart = rw more later.apart }

-- each text is blanks, its first token, and nothing or a blank and what follows
pub record HasToken (text : List ℕ) : Type 0 where
  pub front : List ℕ
  pub whole : text ≡ front ++ first_token text ++ after_token text
  pub blanks : AreBlanks front
  pub apart : IsApart (after_token text)

pub parts_at_token : (text : List ℕ) → HasToken text
parts_at_token text =
    let first = blanks_before text in
    let parted = parts_at_blank (skip_blanks text) in
    record {
      front = first.0;
      whole = first.1 ∙ ap (λ l. first.0 ++ l) parted.whole ∙ sym (append_assoc first.0 (first_token text) (after_token text));
      blanks = first.2;
      apart = parted.apart;
    }

-- ---- words
-- a word has a byte, and no blank
pub record IsWord (word : List ℕ) : Type 0 where
  pub some : 0 < length word
  pub no_blank : list_any is_blank word ≡ false

pub skip_blanks-word : (word rest : List ℕ) → IsWord word → skip_blanks (word ++ rest) ≡ word ++ rest
skip_blanks-word [] rest is = absurd (omega (arith, is.some))
skip_blanks-word (byte ∷ word) rest is = rw (or_parts (is_blank byte) (list_any is_blank word) is.no_blank).0 refl

before-apart : (rest : List ℕ) → IsApart rest → before_first is_blank rest ≡ []
before-apart [] apart = refl
before-apart (byte ∷ rest) apart = rw (take_while-cons (λ byte. not (is_blank byte)) byte rest, apart) refl

-- blanks, if any, then a word, and what stands behind it
module _ (text front word rest : List ℕ) (whole : text ≡ front ++ word ++ rest) (blanks : AreBlanks front) (is : IsWord word) where
  from_word : skip_blanks text ≡ word ++ rest
  from_word = ap skip_blanks (whole ∙ append_assoc front word rest) ∙ skip_blanks-blanks front (word ++ rest) blanks ∙ skip_blanks-word word rest is

  -- the text is not of blanks alone
  pub word-not_blank : AreBlanks text → ⊥
  word-not_blank all = no_bytes word (sym from_word ∙ skip_blanks-none text all) is.some
    where
      no_bytes : (word : List ℕ) → word ++ rest ≡ [] → 0 < length word → ⊥
      no_bytes [] none some = omega arith
      no_bytes (byte ∷ word) none some = let same : byte ∷ (word ++ rest) ≡ [] = none in cc

  -- the word is the first token, where nothing or a blank stands behind it
  pub first_token-word : IsApart rest → first_token text ≡ word
  first_token-word apart = ap (before_first is_blank) from_word ∙ before-append is_blank word rest is.no_blank
      ∙ ap (λ l. word ++ l) (before-apart rest apart) ∙ append-nil word

  pub after_token-word : IsApart rest → after_token text ≡ rest
  after_token-word apart = ap (λ l. drop (length l) (skip_blanks text)) (first_token-word apart) ∙ ap (drop (length word)) from_word
      ∙ drop-append_seam word rest

-- ---- numbers
pub digit-no_blank : (byte : ℕ) → is_ascii_digit byte ≡ true → is_blank byte ≡ false
digit-no_blank byte digit =
    elim (cases_Bool (is_blank byte)) [
      | inl blank ↦ elim (or_cases (byte == 32) (byte == 9) blank) [
        | inl space ↦ let no : is_ascii_digit byte ≡ false = ap is_ascii_digit (eqb-true byte 32 space) in absurd (true≢false (sym digit ∙ no))
        | inr tab ↦ let no : is_ascii_digit byte ≡ false = ap is_ascii_digit (eqb-true byte 9 tab) in absurd (true≢false (sym digit ∙ no))
      ]
      | inr none ↦ none
    ]

digits-no_blank : (digits : List ℕ) → list_all is_ascii_digit digits ≡ true → list_any is_blank digits ≡ false
digits-no_blank [] all = refl
digits-no_blank (byte ∷ digits) all =
    let parts = and_parts (is_ascii_digit byte) (list_all is_ascii_digit digits) all in
    or_from (is_blank byte) (list_any is_blank digits) (digit-no_blank byte parts.0) (digits-no_blank digits parts.1)

-- a number is a word
pub number-IsWord : (digits : List ℕ) → is_number digits ≡ true → IsWord digits
number-IsWord digits number =
    let parts = and_parts (nat_lt 0 (length digits)) (list_all is_ascii_digit digits) number in
    record { some = ltb-true 0 (length digits) parts.0; no_blank = digits-no_blank digits parts.1 }
