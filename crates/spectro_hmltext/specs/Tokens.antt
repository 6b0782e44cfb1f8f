-- The tokens of a formula's text. Spaces and tabs may stand before each of them. A word is as many letters as stand together.
use Rattle.std.specs.Prelude.{ℕ, ◌≡◌, ◌==◌, not, List, [], ◌∷◌, length, drop, codes, if◌then◌else◌}
use Rattle.std.specs.Char.{is_ascii_alphabetic}
use Rattle.std.specs.List.{before_first}
use Rattle.std.specs.Str.{bytes_eq}
use Rattle.spectro_io.specs.Blanks.{skip_blanks}
use Rattle.spectro_hmltext.specs.declared.token.Token.{Token}
use Rattle.spectro_hmltext.specs.declared.token.Token.TheVariants.{Truth, And, Not, Less, Greater, OpenBrace, CloseBrace, Comma, Quote, Other, End}

-- the letters at the front of the text
abbrev pub word_of : List ℕ → List ℕ
word_of text = before_first (λ byte. not (is_ascii_alphabetic byte)) text

abbrev pub word_token : List ℕ → Token
word_token word = if bytes_eq word (codes "tt") then Truth else
    (if bytes_eq word (codes "and") then And else (if bytes_eq word (codes "not") then Not else Other))

abbrev pub mark_token : ℕ → Token
mark_token byte =
    if byte == 60 then Less
    else (if byte == 62 then Greater
    else (if byte == 123 then OpenBrace
    else (if byte == 125 then CloseBrace
    else (if byte == 44 then Comma
    else (if byte == 34 then Quote else Other)))))

-- the token at the front of a text that begins with no blank
abbrev pub front_token : List ℕ → Token
front_token [] = End
front_token (byte ∷ bytes) = if is_ascii_alphabetic byte then word_token (word_of (byte ∷ bytes)) else mark_token byte

-- what stands behind it: behind a word, or behind the one byte of any other token
abbrev pub behind_front : List ℕ → List ℕ
behind_front [] = []
behind_front (byte ∷ bytes) = if is_ascii_alphabetic byte then drop (length (word_of (byte ∷ bytes))) (byte ∷ bytes) else bytes

-- the first token of the text
abbrev pub token_of : List ℕ → Token
token_of text = front_token (skip_blanks text)

-- what stands behind the first token
abbrev pub behind_token : List ℕ → List ℕ
behind_token text = behind_front (skip_blanks text)

-- this is the first token of the text, and the rest stands behind it
pub record Begins (token : Token) (text rest : List ℕ) : Type 0 where
  pub first : token_of text ≡ token
  pub behind : rest ≡ behind_token text
