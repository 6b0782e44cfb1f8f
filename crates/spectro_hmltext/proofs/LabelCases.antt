-- At the front of a text of UTF-8 a label stands in quotes, or there is a fault.
use Rattle.std.proofs.Common.{◌≡◌, ◌≢◌, ◌∙◌, ◌⊎◌, inl, inr, ℕ, zero, suc, ◌+◌, ◌<◌, Bool, true, false, List, [], ◌∷◌, ◌++◌, length, drop, refl, sym, ap, arith, length-append}
use Rattle.std.specs.Prelude.{◌==◌}
use Rattle.std.specs.Str.{IsUtf8}
use Rattle.std.proofs.lemmas.Bool.{cases_Bool, cases_lt, eqb-false, eqb-true}
use Rattle.std.proofs.lemmas.List.Elements.{All-nil}
use Rattle.spectro_io.specs.Blanks.{skip_blanks}
use Rattle.spectro_io.specs.QuotedLabels.{is_escaped, escaped}
use Rattle.spectro_spec.specs.System.{Label}
use Rattle.spectro_hmltext.specs.declared.error.TextKind.{TextKind}
use Rattle.spectro_hmltext.specs.declared.error.TextKind.TheVariants.{BadLabel, Unexpected, UnexpectedEnd}
use Rattle.spectro_hmltext.specs.declared.token.Token.{Token}
use Rattle.spectro_hmltext.specs.declared.token.Token.TheVariants.{Quote, End}
use Rattle.spectro_hmltext.specs.Characters.{BeginsWithQuote, IsCharacterFault, IsClosedAt, IsCutBehind, IsTaken}
use Rattle.spectro_hmltext.specs.Faults.{IsCutLabel, IsLabelFault, IsMisplaced, continuation_of}
use Rattle.spectro_hmltext.specs.FormulaTexts.{StandsLabel}
use Rattle.spectro_hmltext.specs.Tokens.{Begins, token_of, behind_token}
use Rattle.spectro_hmltext.proofs.CharacterLaws.{IsCutBehind-walked, IsWalked, IsWalked-more, escape-IsTaken, escape-too_long, fault_where_cut, line_feed-fault, no_escape-fault, no_line_feed-All, plain-IsTaken, plain-too_long}
use Rattle.spectro_hmltext.proofs.TokenLaws.{quote_Begins, utf8_Begins}

-- what is left of a text from its fault on, and the fault's kind
abbrev pub HasFault : (List ℕ → TextKind → Type 0) → Type 0
HasFault IsFault = (left : List ℕ) × (kind : TextKind) × IsFault left kind

-- a token that can't stand at the front of the text is a fault
pub misplaced-fault : (text : List ℕ) → HasFault (IsMisplaced text)
misplaced-fault text = by (token_of text) refl
  where
    by : (token : Token) → token_of text ≡ token → HasFault (IsMisplaced text)
    by End ends = ([], UnexpectedEnd, IsMisplaced.no_token ends refl refl)
    by token is = (skip_blanks text, Unexpected, IsMisplaced.other_token (λ ends. let same : token ≡ End = sym is ∙ ends in cc) refl refl)

-- ---- one character
-- a character is taken, or the text has a fault there
abbrev TakesOrFails : List ℕ → ℕ → Type 0
TakesOrFails text bytes = ((size : ℕ) × (rest : List ℕ) × IsTaken text bytes size rest) ⊎ HasFault (IsCharacterFault text bytes)

escape-cases : (text more : List ℕ) (bytes : ℕ) → text ≡ 92 ∷ more → IsUtf8 text → TakesOrFails text bytes
escape-cases text [] bytes cut utf8 = inr ([], UnexpectedEnd, λ label same. IsCutLabel.ends_in_escape cut refl refl)
escape-cases text (byte ∷ rest) bytes cut utf8 =
    elim (cases_Bool (is_escaped byte)) [
      | inl special ↦ elim (cases_lt 8192 (bytes + 1)) [
        | inl long ↦ inr (text, BadLabel, escape-too_long text byte rest cut bytes special text BadLabel (refl, refl, long))
        | inr short ↦ inl (bytes + 1, rest, escape-IsTaken text byte rest cut bytes special utf8 short)
      ]
      | inr plain ↦ inr (text, BadLabel, no_escape-fault text byte rest cut bytes plain)
    ]

plain-cases : (text : List ℕ) (byte : ℕ) (more : List ℕ) (bytes : ℕ) → text ≡ byte ∷ more → byte ≢ 34 → byte ≢ 92 → byte ≢ 10 → IsUtf8 text
    → TakesOrFails text bytes
plain-cases text byte more bytes cut quote backslash feed utf8 =
    elim (cases_lt 8192 (bytes + (1 + length (continuation_of more)))) [
      | inl long ↦ inr (
        text,
        BadLabel,
        plain-too_long text byte more cut quote backslash feed utf8 bytes (length (continuation_of more)) refl text BadLabel
            (refl, refl, long),
      )
      | inr short ↦
          inl (
            bytes + (1 + length (continuation_of more)),
            drop (1 + length (continuation_of more)) text,
            plain-IsTaken text byte more cut quote backslash feed utf8 bytes (length (continuation_of more))
                (drop (1 + length (continuation_of more)) text) refl refl short,
          )
    ]

character-cases : (text : List ℕ) (bytes : ℕ) → IsUtf8 text → BeginsWithQuote text ⊎ TakesOrFails text bytes
character-cases [] bytes utf8 = inr (inr ([], UnexpectedEnd, λ label same. IsCutLabel.ends refl refl refl))
character-cases (byte ∷ more) bytes utf8 =
    elim (cases_Bool (byte == 34)) [
      | inl quote ↦ inl (more, ap (λ byte. byte ∷ more) (eqb-true byte 34 quote))
      | inr no_quote ↦ elim (cases_Bool (byte == 92)) [
        | inl backslash ↦ inr (escape-cases (byte ∷ more) more bytes (ap (λ byte. byte ∷ more) (eqb-true byte 92 backslash)) utf8)
        | inr no_backslash ↦ elim (cases_Bool (byte == 10)) [
          | inl feed ↦ inr (inr (byte ∷ more, BadLabel, line_feed-fault (byte ∷ more) bytes (omega arith) (eqb-true byte 10 feed)))
          | inr no_feed ↦ inr (plain-cases (byte ∷ more) byte more bytes refl (eqb-false byte 34 no_quote) (eqb-false byte 92 no_backslash)
              (eqb-false byte 10 no_feed) utf8)
        ]
      ]
    ]

-- ---- one character after the other
some-escaped : (bytes : List ℕ) → 0 < length bytes → 0 < length (escaped bytes)
some-escaped [] some = absurd (omega arith)
some-escaped (byte ∷ bytes) some = by (is_escaped byte) refl
  where
    by : (special : Bool) → is_escaped byte ≡ special → 0 < length (escaped (byte ∷ bytes))
    by true special = rw special (omega arith)
    by false special = rw special (omega arith)

shorter_taken : (text : List ℕ) (bytes size : ℕ) (rest : List ℕ) → IsTaken text bytes size rest → length rest < length text
shorter_taken text bytes size rest taken = omega
    (arith, ap length taken.whole, length-append (escaped taken.character) rest, some-escaped taken.character taken.some)

-- the label ends at a quote, or is cut
label_end-cases : (granted : ℕ) (inside : List ℕ) (bytes : ℕ) (rest : List ℕ) → length rest < granted → IsWalked inside bytes rest
    → ((end : ℕ) × IsClosedAt inside end) ⊎ HasFault (IsCutBehind inside)
label_end-cases zero inside bytes rest few walked = absurd (omega arith)
label_end-cases (suc granted) inside bytes rest few walked =
    elim (character-cases rest bytes walked.utf8) [
      | inl quote ↦
          inl (
            length (escaped walked.label),
            record {
              label = walked.label;
              rest = quote.0;
              whole = walked.whole ∙ ap (λ rest. escaped walked.label ++ rest) quote.1;
              place = refl;
              is_label = walked.is_label;
            },
          )
      | inr next ↦ elim next [
        | inl taken ↦ label_end-cases granted inside taken.0 taken.1 (omega (arith, few, shorter_taken rest bytes taken.0 taken.1 taken.2))
            (IsWalked-more inside bytes rest walked taken.0 taken.1 taken.2)
        | inr fails ↦ inr (fails.0, fails.1, IsCutBehind-walked inside bytes rest walked fails.0 fails.1 fails.2)
      ]
    ]

-- ---- the label in quotes
pub label-cases : (text : List ℕ) → IsUtf8 text → ((label : Label) × (rest : List ℕ) × StandsLabel text label rest) ⊎ HasFault (IsLabelFault text)
label-cases text utf8 = by (token_of text) refl
  where
    opened : token_of text ≡ Quote → ((label : Label) × (rest : List ℕ) × StandsLabel text label rest) ⊎ HasFault (IsLabelFault text)
    opened quote =
        let inside = behind_token text in
        let begins : Begins Quote text inside = record { first = quote; behind = refl } in
        let opens : skip_blanks text ≡ 34 ∷ inside = quote_Begins text inside begins in
        let walked : IsWalked inside 0 inside = record {
          label = [];
          whole = refl;
          size = refl;
          is_label = record { short = omega arith; one_line = no_line_feed-All [] (All-nil (λ byte. byte ≢ 10)) };
          utf8 = utf8_Begins Quote text inside begins (λ e. cc) utf8;
        } in
        elim (label_end-cases (suc (length inside)) inside 0 inside (omega arith) walked) [
          | inl closed ↦ inl (closed.1.label, closed.1.rest, record { whole = opens ∙ ap (λ inside. 34 ∷ inside) closed.1.whole; is_label = closed.1.is_label })
          | inr fails ↦ inr (fails.0, fails.1, fault_where_cut text inside opens fails.0 fails.1 fails.2)
        ]

    by : (token : Token) → token_of text ≡ token → ((label : Label) × (rest : List ℕ) × StandsLabel text label rest) ⊎ HasFault (IsLabelFault text)
    by Quote quote = opened quote
    by token is =
        let fails = misplaced-fault text in
        inr (fails.0, fails.1, IsLabelFault.no_quote (λ quote. let same : token ≡ Quote = sym is ∙ quote in cc) fails.2)
