-- The first token of a text, and what stands behind it.
use Rattle.std.proofs.Common.{◌≡◌, ◌≢◌, ◌∙◌, ℕ, ◌+◌, ◌-◌, ◌<◌, ◌≤◌, Bool, true, false, cond, List, [], ◌∷◌, length, drop, get_or, refl, sym, ap, subst, arith, length-take, length-drop}
use Rattle.std.specs.Prelude.{◌==◌, not, codes}
use Rattle.std.specs.Char.{is_ascii_alphabetic}
use Rattle.std.specs.List.{position_or_len}
use Rattle.std.specs.Str.{IsUtf8, IsCharBoundary, bytes_eq}
use Rattle.std.proofs.lemmas.Bool.{eqb-true}
use Rattle.std.proofs.lemmas.Bool.Decides.{nat_tests}
use Rattle.std.proofs.lemmas.List.Sums.{fails_before_first}
use Rattle.std.proofs.lemmas.Str.{IsUtf8-drop, IsCharBoundary-after_ascii}
use Rattle.spectro_io.specs.Blanks.{skip_blanks}
use Rattle.spectro_io.proofs.Blanks.{length-skip_blanks}
use Rattle.spectro_io.proofs.Utf8Cuts.{utf8_behind, utf8-skip_blanks}
use Rattle.spectro_hmltext.specs.declared.token.Token.{Token}
use Rattle.spectro_hmltext.specs.declared.token.Token.TheVariants.{Truth, And, Not, Less, Greater, OpenBrace, CloseBrace, Comma, Quote, Other, End}
use Rattle.spectro_hmltext.specs.Tokens.{Begins, word_of, word_token, mark_token, front_token, behind_front, token_of, behind_token}

-- ---- choices
choice : {X : Type 0} (P : X → Type 0) (test : Bool) (one other : X) → (test ≡ true → P one) → (test ≡ false → P other) → P (cond test one other)
choice P true one other then else' = then refl
choice P false one other then else' = else' refl

-- what holds of the token of each mark holds of the byte's
module _ (byte : ℕ) (P : Token → Type 0) (less : byte ≡ 60 → P Less) (greater : byte ≡ 62 → P Greater) (open_brace : byte ≡ 123
    → P OpenBrace) (close_brace : byte ≡ 125 → P CloseBrace) (comma : byte ≡ 44 → P Comma)
    (quote : byte ≡ 34 → P Quote) (other : P Other) where
  mark_token-is : P (mark_token byte)
  mark_token-is =
      choice P (byte == 60) Less _ (λ e. less (eqb-true byte 60 e)) (λ _.
      choice P (byte == 62) Greater _ (λ e. greater (eqb-true byte 62 e)) (λ _.
      choice P (byte == 123) OpenBrace _ (λ e. open_brace (eqb-true byte 123 e)) (λ _.
      choice P (byte == 125) CloseBrace _ (λ e. close_brace (eqb-true byte 125 e)) (λ _.
      choice P (byte == 44) Comma _ (λ e. comma (eqb-true byte 44 e)) (λ _.
      choice P (byte == 34) Quote Other (λ e. quote (eqb-true byte 34 e)) (λ _. other))))))

-- a word is a token of letters, or another
word_token-is : (P : Token → Type 0) (word : List ℕ) → P Truth → P And → P Not → P Other → P (word_token word)
word_token-is P word truth and not other =
    choice P (bytes_eq word (codes "tt")) Truth _ (λ _. truth) (λ _.
    choice P (bytes_eq word (codes "and")) And _ (λ _. and) (λ _.
    choice P (bytes_eq word (codes "not")) Not Other (λ _. not) (λ _. other)))

mark-small : (byte : ℕ) → mark_token byte ≢ Other → byte < 128
mark-small byte =
    mark_token-is byte (λ token. token ≢ Other
    → byte < 128) (λ e _. omega (arith, e)) (λ e _. omega (arith, e)) (λ e _. omega (arith, e)) (λ e _. omega (arith, e)) (λ e _. omega (arith, e))
    (λ e _. omega (arith, e))
    (λ none. absurd (none refl))

mark-quote : (byte : ℕ) → mark_token byte ≡ Quote → byte ≡ 34
mark-quote byte = mark_token-is byte (λ token. token ≡ Quote → byte ≡ 34) (λ _ e. cc) (λ _ e. cc) (λ _ e. cc) (λ _ e. cc) (λ _ e. cc) (λ is _. is) (λ e. cc)

word-no_quote : (word : List ℕ) → word_token word ≢ Quote
word-no_quote word = word_token-is (λ token. token ≢ Quote) word (λ e. cc) (λ e. cc) (λ e. cc) (λ e. cc)

-- ---- words
abbrev is_no_letter : ℕ → Bool
is_no_letter byte = not (is_ascii_alphabetic byte)

letter-small : (byte : ℕ) → is_no_letter byte ≡ false → byte < 128
letter-small byte letter = grind (arith, nat_tests)

module _ (text : List ℕ) (some : 0 < length (word_of text)) where
  abbrev size : ℕ
  size = length (word_of text)

  within : size ≤ length text
  within = omega (arith, length-take (position_or_len is_no_letter text) text)

  utf8_behind_word : IsUtf8 text → IsUtf8 (drop size text)
  utf8_behind_word utf8 =
      let last : size - 1 < position_or_len is_no_letter text = omega (arith, some, length-take (position_or_len is_no_letter text) text) in
      let small : get_or text (size - 1) 0 < 128 = letter-small (get_or text (size - 1) 0) (fails_before_first is_no_letter text (size - 1) 0 last) in
      let next : (size - 1) + 1 ≡ size = omega (arith, some) in
      let boundary : IsCharBoundary text ((size - 1) + 1) = IsCharBoundary-after_ascii text (size - 1) utf8 (omega (arith, some, within)) small in
      IsUtf8-drop text size utf8 (subst (IsCharBoundary text) next boundary)

word-some : (byte : ℕ) (bytes : List ℕ) → is_ascii_alphabetic byte ≡ true → 0 < length (word_of (byte ∷ bytes))
word-some byte bytes letter =
    let count : position_or_len is_no_letter (byte ∷ bytes) ≡ 1 + position_or_len is_no_letter bytes = ap
    (λ letter. cond (not (not letter)) (1 + position_or_len is_no_letter bytes) 0) letter in
    omega (arith, count, length-take (position_or_len is_no_letter (byte ∷ bytes)) (byte ∷ bytes))

-- what stands behind a first byte that is a letter, or none
module _ (byte : ℕ) (bytes : List ℕ) where
  abbrev behind_word : List ℕ
  behind_word = drop (length (word_of (byte ∷ bytes))) (byte ∷ bytes)

  letter-behind : is_ascii_alphabetic byte ≡ true → behind_front (byte ∷ bytes) ≡ behind_word
  letter-behind letter = ap (λ letter. cond letter behind_word bytes) letter

  mark-behind : is_ascii_alphabetic byte ≡ false → behind_front (byte ∷ bytes) ≡ bytes
  mark-behind letter = ap (λ letter. cond letter behind_word bytes) letter

  letter-token : is_ascii_alphabetic byte ≡ true → front_token (byte ∷ bytes) ≡ word_token (word_of (byte ∷ bytes))
  letter-token letter = ap (λ letter. cond letter (word_token (word_of (byte ∷ bytes))) (mark_token byte)) letter

  mark-token : is_ascii_alphabetic byte ≡ false → front_token (byte ∷ bytes) ≡ mark_token byte
  mark-token letter = ap (λ letter. cond letter (word_token (word_of (byte ∷ bytes))) (mark_token byte)) letter

-- ---- what stands behind the first token
utf8_behind_front : (text : List ℕ) → IsUtf8 text → front_token text ≢ Other → IsUtf8 (behind_front text)
utf8_behind_front [] utf8 known = utf8
utf8_behind_front (byte ∷ bytes) utf8 known = by (is_ascii_alphabetic byte) refl
  where
    by : (letter : Bool) → is_ascii_alphabetic byte ≡ letter → IsUtf8 (behind_front (byte ∷ bytes))
    by true letter = subst IsUtf8 (sym (letter-behind byte bytes letter)) (utf8_behind_word (byte ∷ bytes) (word-some byte bytes letter) utf8)
    by false letter = subst IsUtf8 (sym (mark-behind byte bytes letter))
        (utf8_behind [] byte bytes (mark-small byte (λ e. known (mark-token byte bytes letter ∙ e))) utf8)

utf8_behind_token : (text : List ℕ) → IsUtf8 text → token_of text ≢ Other → IsUtf8 (behind_token text)
utf8_behind_token text utf8 known = utf8_behind_front (skip_blanks text) (utf8-skip_blanks text utf8) known

shorter_behind_front : (text : List ℕ) → front_token text ≢ End → length (behind_front text) < length text
shorter_behind_front [] some = absurd (some refl)
shorter_behind_front (byte ∷ bytes) some = by (is_ascii_alphabetic byte) refl
  where
    by : (letter : Bool) → is_ascii_alphabetic byte ≡ letter → length (behind_front (byte ∷ bytes)) < length (byte ∷ bytes)
    by true letter = omega (
      arith,
      ap length (letter-behind byte bytes letter),
      length-drop (length (word_of (byte ∷ bytes)))
          (byte ∷ bytes),
      word-some byte bytes letter,
      within (byte ∷ bytes) (word-some byte bytes letter),
    )
    by false letter = omega (arith, ap length (mark-behind byte bytes letter))

-- it is shorter than the text
shorter_behind_token : (text : List ℕ) → token_of text ≢ End → length (behind_token text) < length text
shorter_behind_token text some = omega (arith, shorter_behind_front (skip_blanks text) some, length-skip_blanks text)

quote_front : (text : List ℕ) → front_token text ≡ Quote → text ≡ 34 ∷ behind_front text
quote_front [] quote = cc
quote_front (byte ∷ bytes) quote = by (is_ascii_alphabetic byte) refl
  where
    by : (letter : Bool) → is_ascii_alphabetic byte ≡ letter → byte ∷ bytes ≡ 34 ∷ behind_front (byte ∷ bytes)
    by true letter = absurd (word-no_quote (word_of (byte ∷ bytes)) (sym (letter-token byte bytes letter) ∙ quote))
    by false letter = ap (λ byte. byte ∷ bytes) (mark-quote byte (sym (mark-token byte bytes letter) ∙ quote))
        ∙ ap (λ bytes. 34 ∷ bytes) (sym (mark-behind byte bytes letter))

-- a quote stands before it, where that is the token
quote_behind : (text : List ℕ) → token_of text ≡ Quote → skip_blanks text ≡ 34 ∷ behind_token text
quote_behind text quote = quote_front (skip_blanks text) quote

-- ---- a token that begins the text
-- it was found there
pub Begins-found : (token : Token) (text rest : List ℕ) (found : Token) → found ≡ token_of text → rest ≡ behind_token text → found ≡ token
    → Begins token text rest
Begins-found token text rest found first behind is = record { first = sym first ∙ is; behind = behind }

pub utf8_Begins : (token : Token) (text rest : List ℕ) → Begins token text rest → token ≢ Other → IsUtf8 text → IsUtf8 rest
utf8_Begins token text rest begins known utf8 = subst IsUtf8 (sym begins.behind) (utf8_behind_token text utf8 (λ e. known (sym begins.first ∙ e)))

pub shorter_Begins : (token : Token) (text rest : List ℕ) → Begins token text rest → token ≢ End → length rest < length text
shorter_Begins token text rest begins some = omega (arith, ap length begins.behind, shorter_behind_token text (λ e. some (sym begins.first ∙ e)))

pub quote_Begins : (text rest : List ℕ) → Begins Quote text rest → skip_blanks text ≡ 34 ∷ rest
quote_Begins text rest begins = quote_behind text begins.first ∙ ap (λ rest. 34 ∷ rest) (sym begins.behind)
