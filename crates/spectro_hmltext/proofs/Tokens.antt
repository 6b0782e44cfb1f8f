-- The tokens of what is printed, and how many bytes each token takes.
use Rattle.std.proofs.Common.{◌≡◌, ℕ, ◌+◌, ◌≤◌, Bool, true, false, not, List, [], ◌∷◌, ◌++◌, length, drop, refl, sym, ap, arith, length-drop, length-take, inl, inr}
use Rattle.std.specs.Prelude.{codes, ◌==◌, if◌then◌else◌}
use Rattle.std.specs.Char.{is_ascii_alphabetic}
use Rattle.std.specs.List.{position_or_len}
use Rattle.std.specs.Str.{bytes_eq}
use Rattle.std.proofs.lemmas.Bool.{cases_Bool}
use Rattle.std.proofs.lemmas.Slice.Eq.{bytes_eq-Decides}
use Rattle.spectro_io.specs.Blanks.{skip_blanks}
use Rattle.spectro_io.proofs.Blanks.{length-skip_blanks}
use Rattle.spectro_hmltext.specs.declared.token.Token.{Token}
use Rattle.spectro_hmltext.specs.declared.token.Token.TheVariants.{Truth, And, Not, Less, Greater, OpenBrace, CloseBrace, Comma, Quote, Other}
use Rattle.spectro_hmltext.specs.Tokens.{Begins, front_token, behind_front, word_of, word_token, mark_token}

-- no letter stands at the front of the bytes
pub data BeginsApart (bytes : List ℕ) : Type 0 where
  nothing : bytes ≡ [] → BeginsApart bytes
  something : (byte : ℕ) (more : List ℕ) → bytes ≡ byte ∷ more → is_ascii_alphabetic byte ≡ false → BeginsApart bytes

-- the word for truth, where no letter stands behind it
pub begins_truth : (rest : List ℕ) → BeginsApart rest → Begins Truth (codes "tt" ++ rest) rest
begins_truth rest (BeginsApart.nothing is) = rw is (record { first = refl; behind = refl })
begins_truth rest (BeginsApart.something byte more is apart) = rw is (record { first = rw apart refl; behind = rw apart refl })

-- `and` before its brace
pub begins_and : (rest : List ℕ) → Begins And (codes "and{" ++ rest) (codes "{" ++ rest)
begins_and rest = record { first = refl; behind = refl }

-- `not` before its space
pub begins_not : (rest : List ℕ) → Begins Not (codes "not " ++ rest) (32 ∷ rest)
begins_not rest = record { first = refl; behind = refl }

-- the mark before a label
pub begins_less : (rest : List ℕ) → Begins Less (codes "<" ++ rest) rest
begins_less rest = record { first = refl; behind = refl }

-- the mark behind a label
pub begins_greater : (rest : List ℕ) → Begins Greater (codes ">" ++ rest) rest
begins_greater rest = record { first = refl; behind = refl }

-- the brace before clauses
pub begins_open : (rest : List ℕ) → Begins OpenBrace (codes "{" ++ rest) rest
begins_open rest = record { first = refl; behind = refl }

-- the brace behind clauses
pub begins_close : (rest : List ℕ) → Begins CloseBrace (codes "}" ++ rest) rest
begins_close rest = record { first = refl; behind = refl }

-- the comma between clauses
pub begins_comma : (rest : List ℕ) → Begins Comma (codes "," ++ rest) rest
begins_comma rest = record { first = refl; behind = refl }

-- a space before a token says nothing
pub begins_behind_space : (token : Token) (text rest : List ℕ) → Begins token text rest → Begins token (32 ∷ text) rest
begins_behind_space token text rest begins = record { first = begins.first; behind = begins.behind }

-- so many bytes a token takes at the least
abbrev pub bytes_of : Token → ℕ
bytes_of Truth = 2
bytes_of And = 3
bytes_of Not = 3
bytes_of Less = 1
bytes_of Greater = 1
bytes_of OpenBrace = 1
bytes_of CloseBrace = 1
bytes_of Comma = 1
bytes_of _ = 0

word_bytes : (word : List ℕ) → bytes_of (word_token word) ≤ length word
word_bytes word = elim (cases_Bool (bytes_eq word (codes "tt"))) [
  | inl truth ↦ let bytes : length word ≡ 2 = ap length ((bytes_eq-Decides word (codes "tt")).0 truth) in rw truth (omega arith)
  | inr one ↦ elim (cases_Bool (bytes_eq word (codes "and"))) [
    | inl and ↦ let bytes : length word ≡ 3 = ap length ((bytes_eq-Decides word (codes "and")).0 and) in rw (one, and) (omega arith)
    | inr two ↦ elim (cases_Bool (bytes_eq word (codes "not"))) [
      | inl negation ↦ let bytes : length word ≡ 3 = ap length ((bytes_eq-Decides word (codes "not")).0 negation) in rw (one, two, negation) (omega arith)
      | inr three ↦ rw (one, two, three) (omega arith)
    ]
  ]
]

either_bytes : (test : Bool) (one two : Token) → bytes_of one ≤ 1 → bytes_of two ≤ 1 → bytes_of (if test then one else two) ≤ 1
either_bytes true one two few more = few
either_bytes false one two few more = more

mark_bytes : (byte : ℕ) → bytes_of (mark_token byte) ≤ 1
mark_bytes byte =
    let none : bytes_of Other ≤ 1 = omega arith in
    let quote = either_bytes (byte == 34) Quote Other (omega arith) none in
    let comma = either_bytes (byte == 44) Comma (if byte == 34 then Quote else Other) (omega arith) quote in
    let close = either_bytes (byte == 125) CloseBrace (if byte == 44 then Comma else (if byte == 34 then Quote else Other)) (omega arith) comma in
    let open_brace = either_bytes (byte == 123) OpenBrace
    (if byte == 125 then CloseBrace else (if byte == 44 then Comma else (if byte == 34 then Quote else Other))) (omega arith) close in
    let greater = either_bytes (byte == 62) Greater
    (if byte == 123 then OpenBrace else (if byte == 125 then CloseBrace else (if byte == 44 then Comma else (if byte == 34 then Quote else Other))))
    (omega arith) open_brace in
    either_bytes (byte == 60) Less
    (if byte == 62 then Greater else
    (if byte == 123 then OpenBrace else (if byte == 125 then CloseBrace else (if byte == 44 then Comma else (if byte == 34 then Quote else Other)))))
    (omega arith) greater

choice_bytes : (test : Bool) (one two : Token) (left right : List ℕ) (bytes : ℕ) → length left + bytes_of one ≤ bytes → length right + bytes_of two ≤ bytes
    → length (if test then left else right) + bytes_of (if test then one else two) ≤ bytes
choice_bytes true one two left right bytes first second = first
choice_bytes false one two left right bytes first second = second

front_bytes : (text : List ℕ) → length (behind_front text) + bytes_of (front_token text) ≤ length text
front_bytes [] = omega arith
front_bytes (byte ∷ more) =
    let text : List ℕ = byte ∷ more in
    let word : List ℕ = word_of text in
    let whole : length text ≡ length more + 1 = omega arith in
    let fits : length word ≤ length text = omega (arith, length-take (position_or_len (λ byte. not (is_ascii_alphabetic byte)) text) text) in
    choice_bytes (is_ascii_alphabetic byte) (word_token word) (mark_token byte) (drop (length word) text) more (length text)
    (omega (arith, fits, length-drop (length word) text, word_bytes word)) (omega (arith, whole, mark_bytes byte))

-- what stands behind a token is shorter by the token's bytes
pub begins_bytes : (token : Token) (text rest : List ℕ) → Begins token text rest → length rest + bytes_of token ≤ length text
begins_bytes token text rest begins =
    let first : token ≡ front_token (skip_blanks text) = sym begins.first in
    let behind : rest ≡ behind_front (skip_blanks text) = begins.behind in
    rw (first, behind) (omega (arith, front_bytes (skip_blanks text), length-skip_blanks text))
