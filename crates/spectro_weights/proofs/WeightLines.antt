-- A line has one number and one label at most, and the code finds them.
use Rattle.std.proofs.Common.{◌≡◌, ◌∙◌, ℕ, ◌<◌, true, List, [], ◌∷◌, ◌++◌, Bor, length, refl, sym, ap, subst, inl, inr, append_assoc, arith}
use Rattle.std.specs.Prelude.{None, Some, Result, Ok, Err, MatchResult}
use Rattle.std.specs.List.{list_all}
use Rattle.std.specs.Result.{result_ok}
use Rattle.std.specs.Str.{IsUtf8}
use Rattle.std.proofs.lemmas.Bool.{and_parts, and_from, cases_lt}
use Rattle.std.proofs.lemmas.Option.{none-some, same_Some}
use Rattle.spectro_io.specs.Blanks.{is_blank, trimmed, AreBlanks, IsApart}
use Rattle.spectro_io.specs.Numbers.{is_number, number_value, capped, number_of}
use Rattle.spectro_io.specs.QuotedLabels.{IsInQuotes, IsQuoted}
use Rattle.spectro_io.specs.Tokens.{first_token, after_token}
use Rattle.spectro_io.proofs.Blanks.{trims, trimmed-quoted}
use Rattle.spectro_io.proofs.ClosingQuotes.{in_quotes-once}
use Rattle.spectro_io.proofs.Decimals.{number_of-number}
use Rattle.spectro_io.proofs.QuotedLabels.{label-once}
use Rattle.spectro_io.proofs.Tokens.{HasToken, parts_at_token, first_token-word, after_token-word, number-IsWord}
use Rattle.spectro_io.proofs.Utf8Cuts.{utf8_before, utf8_behind}
use Rattle.spectro_spec.specs.Weighing.{Weight}
use Rattle.spectro_weights.specs.WeightLines.{IsWeightLine, IsEntryLine}

-- a gap of blanks stands first
apart : (gap rest : List ℕ) → AreBlanks gap → 0 < length gap → IsApart (gap ++ rest)
apart [] rest all some = absurd (omega arith)
apart (byte ∷ gap) rest all some = (and_parts (is_blank byte) (list_all is_blank gap) all).0

module _ (line digits inside : List ℕ) (is : IsWeightLine line digits inside) where
  abbrev quoted : List ℕ
  quoted = 34 ∷ inside ++ 34 ∷ is.back

  abbrev field : List ℕ
  field = is.gap ++ quoted

  from_quote : line ≡ is.front ++ digits ++ is.gap ++ quoted
  from_quote = is.whole ∙ append_assoc (is.front ++ digits ++ is.gap) (34 ∷ inside) (34 ∷ is.back)

  whole : line ≡ is.front ++ digits ++ field
  whole = from_quote ∙ append_assoc (is.front ++ digits) is.gap quoted

  pub token_is : first_token line ≡ digits
  token_is = first_token-word line is.front digits field whole is.blanks_before (number-IsWord digits is.number)
      (apart is.gap quoted is.blanks_between is.apart)

  after_is : after_token line ≡ field
  after_is = after_token-word line is.front digits field whole is.blanks_before (number-IsWord digits is.number)
      (apart is.gap quoted is.blanks_between is.apart)

  pub in_quotes_is : IsInQuotes (trimmed (after_token line)) inside
  in_quotes_is = record { whole = ap trimmed after_is ∙ trimmed-quoted is.gap inside is.back is.blanks_between is.blanks_behind; closed = is.closed }

  pub inside-utf8 : IsUtf8 line → IsUtf8 inside
  inside-utf8 utf8 =
      utf8_before inside 34 is.back (omega arith)
      (utf8_behind (is.front ++ digits ++ is.gap) 34 (inside ++ 34 ∷ is.back) (omega arith) (subst IsUtf8 from_quote utf8))

-- the parts of a line are one
pub digits-once : (line digits others inside other : List ℕ) → IsWeightLine line digits inside → IsWeightLine line others other → digits ≡ others
digits-once line digits others inside other one two = sym (token_is line digits inside one) ∙ token_is line others other two

pub inside-once : (line digits others inside other : List ℕ) → IsWeightLine line digits inside → IsWeightLine line others other → inside ≡ other
inside-once line digits others inside other one two = in_quotes-once (trimmed (after_token line)) inside other (in_quotes_is line digits inside one)
    (in_quotes_is line others other two)

pub entry-once : (line : List ℕ) (entry other : Weight) → IsEntryLine line entry → IsEntryLine line other → entry ≡ other
entry-once line entry other one two =
    let digits : one.digits ≡ two.digits = digits-once line one.digits two.digits one.inside two.inside one.form two.form in
    let inside : one.inside ≡ two.inside = inside-once line one.digits two.digits one.inside two.inside one.form two.form in
    let label : entry.label ≡ other.label = label-once two.inside entry.label other.label
    (subst (λ inside. IsQuoted inside entry.label) inside one.label) two.label in
    let weight : entry.weight ≡ other.weight = one.weight ∙ ap number_value digits ∙ sym two.weight in
    let same : ◌≡◌ {A = Weight} (record { label = entry.label; weight = entry.weight }) (record { label = other.label; weight = other.weight }) = rw
    (label, weight) refl in
    same

-- a token that is a number, and behind it a text in quotes, are a line
pub found-IsWeightLine : (line inside : List ℕ) → is_number (first_token line) ≡ true → IsInQuotes (trimmed (after_token line)) inside
    → IsWeightLine line (first_token line) inside
found-IsWeightLine line inside number quoted = by (after_token line) refl
  where
    parts : HasToken line
    parts = parts_at_token line

    by : (rest : List ℕ) → after_token line ≡ rest → IsWeightLine line (first_token line) inside
    by [] none = let nothing : [] ≡ 34 ∷ inside ++ 34 ∷ [] = sym (ap trimmed none) ∙ quoted.whole in cc
    by (byte ∷ others) is =
        let blank : is_blank byte ≡ true = subst IsApart is parts.apart in
        let last = trims others in
        let shorter : trimmed (byte ∷ others) ≡ trimmed others = rw blank refl in
        let kept : trimmed others ≡ 34 ∷ inside ++ 34 ∷ [] = sym shorter ∙ ap trimmed (sym is) ∙ quoted.whole in
        let field : List ℕ = 34 ∷ inside ++ 34 ∷ last.back in
        let gap : List ℕ = byte ∷ last.front in
        let behind : after_token line ≡ gap ++ field =
        is ∙ ap (λ l. byte ∷ l) (last.whole ∙ ap (λ l. last.front ++ (l ++ last.back)) kept
        ∙ ap (λ l. last.front ++ l) (append_assoc (34 ∷ inside) (34 ∷ []) last.back)) in
        record {
          front = parts.front;
          gap = gap;
          back = last.back;
          whole = parts.whole ∙ ap (λ l. parts.front ++ first_token line ++ l) behind ∙ sym (append_assoc (parts.front ++ first_token line) gap field)
              ∙ sym (append_assoc (parts.front ++ first_token line ++ gap) (34 ∷ inside) (34 ∷ last.back));
          blanks_before = parts.blanks;
          number = number;
          blanks_between = and_from (is_blank byte) (list_all is_blank last.front) blank last.before;
          apart = omega arith;
          closed = quoted.closed;
          blanks_behind = last.behind;
        }

-- where the token is no number the line is none
pub some_number : (line digits inside : List ℕ) → IsWeightLine line digits inside → None ≡ number_of (first_token line) → ⊥
some_number line digits inside is none =
    let number : is_number (first_token line) ≡ true = ap is_number (token_is line digits inside is) ∙ is.number in
    none-some (capped (number_value (first_token line))) (none ∙ number_of-number (first_token line) number)

-- what is taken as a text
pub told_text : {E : Type 0} (bytes : List ℕ) (result : Result (Bor (List ℕ)) E) (Q : E → Type 0) (text : Bor (List ℕ))
    → MatchResult result (λ text. (text.now ≡ bytes) × IsUtf8 bytes) (λ e. ¬ (IsUtf8 bytes) × Q e) → Some text ≡ result_ok result → text.now ≡ bytes
told_text bytes (Ok found) Q text cases is = ap (λ text. text.now) (same_Some text found is) ∙ cases.0
told_text bytes (Err e) Q text cases is = absurd (none-some text (sym is))

pub no_text : {E : Type 0} (bytes : List ℕ) (result : Result (Bor (List ℕ)) E) (Q : E → Type 0)
    → MatchResult result (λ text. (text.now ≡ bytes) × IsUtf8 bytes) (λ e. ¬ (IsUtf8 bytes) × Q e) → None ≡ result_ok result → ¬ IsUtf8 bytes
no_text bytes (Ok found) Q cases is = absurd (none-some found is)
no_text bytes (Err e) Q cases is = cases.0

-- a number that fits no byte is above 255, however great it is
pub above-255 : (value number : ℕ) → number ≡ capped value → (number < 256 → ⊥) → 255 < value
above-255 value number is large = elim (cases_lt number 256) [ inl less ↦ absurd (large less) | inr more ↦ omega (arith, is) ]
