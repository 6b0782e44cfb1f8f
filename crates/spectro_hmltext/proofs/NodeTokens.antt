-- Words and numbers at the front of a text: each text begins with one of them at most.
use Rattle.std.proofs.Common.{◌≡◌, ◌∙◌, ℕ, ◌<◌, Bool, true, false, List, [], ◌∷◌, ◌++◌, length, refl, sym, ap, arith, length-append}
use Rattle.std.specs.List.{list_any}
use Rattle.std.proofs.lemmas.Bool.{or_from}
use Rattle.spectro_io.specs.Blanks.{is_blank, AreBlanks}
use Rattle.spectro_io.specs.Numbers.{is_number, number_value}
use Rattle.spectro_io.specs.Tokens.{first_token, after_token}
use Rattle.spectro_io.proofs.Tokens as tokens
use Rattle.spectro_io.proofs.Tokens.{IsWord, number-IsWord, parts_at_token}
use Rattle.spectro_hml.specs.declared.node.Clause.{Clause}
use Rattle.spectro_hmltext.specs.NodeLines.{BeginsWith, BeginsNumber, BeginsClause, sign_of}

-- each text begins with its first token
pub begins_with : (text : List ℕ) → BeginsWith text (first_token text) (after_token text)
begins_with text = let parts = parts_at_token text in record { front = parts.front; whole = parts.whole; blanks = parts.blanks; apart = parts.apart }

module _ (text word rest : List ℕ) (begins : BeginsWith text word rest) (is : IsWord word) where
  pub first_token-word : first_token text ≡ word
  first_token-word = tokens.first_token-word text begins.front word rest begins.whole begins.blanks is begins.apart

  pub after_token-word : after_token text ≡ rest
  after_token-word = tokens.after_token-word text begins.front word rest begins.whole begins.blanks is begins.apart

  -- a word stands where its text is not of blanks alone
  pub word-not_blank : AreBlanks text → ⊥
  word-not_blank = tokens.word-not_blank text begins.front word rest begins.whole begins.blanks is

pub sign-no_blank : (positive : Bool) → is_blank (sign_of positive) ≡ false
sign-no_blank true = refl
sign-no_blank false = refl

pub clause-IsWord : (positive : Bool) (digits : List ℕ) → is_number digits ≡ true → IsWord (sign_of positive ∷ digits)
clause-IsWord positive digits number =
    record {
      some = omega arith;
      no_blank = or_from (is_blank (sign_of positive)) (list_any is_blank digits) (sign-no_blank positive)
          (number-IsWord digits number).no_blank;
    }

-- a text begins with one word
pub word-once : (text word rest other others : List ℕ) → BeginsWith text word rest → BeginsWith text other others → IsWord word → IsWord other
    → (word ≡ other) × (rest ≡ others)
word-once text word rest other others one two is same = (
  sym (first_token-word text word rest one is) ∙ first_token-word text other others two same,
  sym (after_token-word text word rest one is)
      ∙ after_token-word text other others two same,
)

pub number-once : (text : List ℕ) (number other : ℕ) (rest others : List ℕ) → BeginsNumber text number rest → BeginsNumber text other others
    → (number ≡ other) × (rest ≡ others)
number-once text number other rest others one two =
    let same = word-once text one.digits rest two.digits others one.first two.first (number-IsWord one.digits one.is_number)
    (number-IsWord two.digits two.is_number) in
    (one.value ∙ ap number_value same.0 ∙ sym two.value, same.1)

same_sign : (one two : Bool) → sign_of one ≡ sign_of two → one ≡ two
same_sign true true e = refl
same_sign true false e = absurd (omega (arith, e))
same_sign false true e = absurd (omega (arith, e))
same_sign false false e = refl

pub clause-once : (text : List ℕ) (clause other : Clause) (rest others : List ℕ) → BeginsClause text clause rest → BeginsClause text other others
    → (clause ≡ other) × (rest ≡ others)
clause-once text clause other rest others one two =
    let same = word-once text (sign_of clause.positive ∷ one.digits) rest (sign_of other.positive ∷ two.digits) others one.first two.first
    (clause-IsWord clause.positive one.digits one.is_number) (clause-IsWord other.positive two.digits two.is_number) in
    let whole : sign_of clause.positive ∷ one.digits ≡ sign_of other.positive ∷ two.digits = same.0 in
    let sign : sign_of clause.positive ≡ sign_of other.positive = cc in
    let digits : one.digits ≡ two.digits = cc in
    let positive : clause.positive ≡ other.positive = same_sign clause.positive other.positive sign in
    let node : clause.node ≡ other.node = one.value ∙ ap number_value digits ∙ sym two.value in
    let equal : ◌≡◌ {A = Clause} (record { positive = clause.positive; node = clause.node }) (record { positive = other.positive; node = other.node }) = rw
    (positive, node) refl in
    (equal, same.1)

-- a text is shorter behind its first token
pub after-shorter : (text : List ℕ) → (first_token text ≡ [] → ⊥) → length (after_token text) < length text
after-shorter text some =
    let begins = begins_with text in
    let some_bytes : 0 < length (first_token text) = longer (first_token text) some in
    omega (
      arith,
      ap length begins.whole,
      length-append (begins.front ++ first_token text) (after_token text),
      length-append begins.front
          (first_token text),
      some_bytes,
    )
  where
    longer : (bytes : List ℕ) → (bytes ≡ [] → ⊥) → 0 < length bytes
    longer [] some = absurd (some refl)
    longer (byte ∷ bytes) some = omega arith
