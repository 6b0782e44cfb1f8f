-- The characters of a label in quotes, one after the other.
use Rattle.std.proofs.Common.{◌≡◌, ◌≢◌, ◌∙◌, ◌⊎◌, inl, inr, ℕ, suc, ◌+◌, ◌-◌, ◌<◌, ◌≤◌, Bool, true, false, List, [], ◌∷◌, ◌++◌, length, take, drop, get_or, refl, sym, ap, subst, arith, append_assoc, length-append, take-append-drop, length-drop}
use Rattle.std.specs.Prelude.{◌==◌, ◌&&◌, not, nat_lt, Result, Ok, Err, Option, Some, None, IfOk, MatchOption, All, Contains}
use Rattle.std.specs.List.{position_or_len}
use Rattle.std.specs.Str.{IsUtf8, IsCharBoundary}
use Rattle.std.proofs.Math.Seq.{drop-append_seam, take-append_seam, take-length}
use Rattle.std.proofs.lemmas.Bool.{ne_eqb, or_from, or_parts, eqb-false, eqb-true, or_cases}
use Rattle.std.proofs.lemmas.Bool.Decides.{nat_tests}
use Rattle.std.proofs.lemmas.List.{get_or-take, length-take}
use Rattle.std.proofs.lemmas.List.Elements.{All-nil, All-cons, All-head, All-tail, All-weaker, All-contains, All-from_get_or, Contains-append_cases, Contains-get_or}
use Rattle.std.proofs.lemmas.List.Folds.{list_any_none}
use Rattle.std.proofs.lemmas.List.Sums.{fails_before_first, passes_at_first}
use Rattle.std.proofs.lemmas.Str.{IsUtf8-drop, IsCharBoundary-start}
use Rattle.spectro_spec.specs.System.{Label, IsLabel}
use Rattle.spectro_io.specs.Blanks.{skip_blanks}
use Rattle.spectro_io.specs.LineReaders.{has_line_feed}
use Rattle.spectro_io.specs.QuotedLabels.{is_escaped, escaped, IsQuoted}
use Rattle.spectro_io.proofs.QuotedLabels.{escaped-append}
use Rattle.spectro_io.proofs.Utf8Cuts.{utf8_before, utf8_behind}
use Rattle.spectro_hmltext.specs.declared.error.TextKind.{TextKind}
use Rattle.spectro_hmltext.specs.declared.error.TextKind.TheVariants.{BadLabel}
use Rattle.spectro_hmltext.specs.declared.quoted_label.Taken.{Taken}
use Rattle.spectro_hmltext.specs.declared.stop.Stop.{Stop}
use Rattle.spectro_hmltext.specs.Faults.{continuation_of, IsCutLabel, IsLabelFault}
use Rattle.spectro_hmltext.specs.FormulaTexts.{StandsLabel}
use Rattle.spectro_hmltext.specs.Characters.{BeginsWithQuote, IsCharacterFault, IsClosedAt, IsCutBehind, IsTaken, IsTooLong}

-- ---- bytes that end no line
pub no_line_feed-All : (bytes : List ℕ) → All (λ byte. byte ≢ 10) bytes → ¬ Contains bytes 10
no_line_feed-All bytes all contains = All-contains (λ byte. byte ≢ 10) bytes 10 all contains refl

All-has_line_feed : (bytes : List ℕ) → has_line_feed bytes ≡ false → All (λ byte. byte ≢ 10) bytes
All-has_line_feed [] none = All-nil (λ byte. byte ≢ 10)
All-has_line_feed (byte ∷ bytes) none =
    let parts = or_parts (byte == 10) (has_line_feed bytes) none in
    All-cons (λ byte. byte ≢ 10) byte bytes (eqb-false byte 10 parts.0) (All-has_line_feed bytes parts.1)

pub has_line_feed-none : (bytes : List ℕ) → ¬ Contains bytes 10 → has_line_feed bytes ≡ false
has_line_feed-none bytes none = list_any_none (λ byte. byte == 10) bytes
    (All-from_get_or (λ byte. (byte == 10) ≡ false) bytes 0
    (λ i within. ne_eqb (get_or bytes i 0) 10 (λ e. none (subst (Contains bytes) e (Contains-get_or bytes i 0 within)))))

-- what stands for a label is one
pub IsLabel-quoted : (inside label : List ℕ) → IsQuoted inside label → IsLabel label
IsLabel-quoted inside label is = record { short = is.short; one_line = no_line_feed-All label (All-has_line_feed label is.one_line) }

-- ---- what is escaped
-- neither a quote nor a backslash
abbrev pub IsPlain : ℕ → Type 0
IsPlain byte = (byte ≢ 34) × (byte ≢ 92)

-- bytes of which none is a quote or a backslash
pub escaped-plain : (bytes : List ℕ) → All IsPlain bytes → escaped bytes ≡ bytes
escaped-plain [] plain = refl
escaped-plain (byte ∷ bytes) plain =
    let here = All-head IsPlain byte bytes plain in
    let special : is_escaped byte ≡ false = or_from (byte == 34) (byte == 92) (ne_eqb byte 34 here.0) (ne_eqb byte 92 here.1) in
    let later = escaped-plain bytes (All-tail IsPlain byte bytes plain) in
    rw (special, later) refl

-- ---- the bytes behind the first of a character
abbrev begins_character : ℕ → Bool
begins_character byte = not (nat_lt 127 byte && nat_lt byte 192)

abbrev IsContinuation : ℕ → Type 0
IsContinuation byte = (127 < byte) × (byte < 192)

continuation-range : (byte : ℕ) → begins_character byte ≡ false → IsContinuation byte
continuation-range byte none = (grind (arith, nat_tests), grind (arith, nat_tests))

pub begins-range : (byte : ℕ) → begins_character byte ≡ true → 128 ≤ byte → 192 ≤ byte
begins-range byte begins above = grind (arith, nat_tests)

pub begins-from_range : (byte : ℕ) → (128 ≤ byte → 192 ≤ byte) → (nat_lt 127 byte && nat_lt byte 192) ≡ false
begins-from_range byte range = grind (arith, nat_tests)

All-continuation : (bytes : List ℕ) → All IsContinuation (continuation_of bytes)
All-continuation bytes = All-from_get_or IsContinuation (continuation_of bytes) 0
    (λ i within. by i (omega (arith, within, length-take (position_or_len begins_character bytes) bytes)))
  where
    by : (i : ℕ) → i < position_or_len begins_character bytes → IsContinuation (get_or (continuation_of bytes) i 0)
    by i within = subst IsContinuation (sym (get_or-take (position_or_len begins_character bytes) bytes i 0 within))
        (continuation-range (get_or bytes i 0) (fails_before_first begins_character bytes i 0 within))

-- ---- a character with its escape
-- the first two bytes
pub two_bytes : (text more : List ℕ) → text ≡ 92 ∷ more → 2 ≤ length text → text ≡ 92 ∷ get_or text 1 0 ∷ take (length text - 2) (drop 2 text)
two_bytes [] more begins long = absurd (omega arith)
two_bytes (first ∷ []) more begins long = absurd (omega arith)
two_bytes (first ∷ byte ∷ rest) more begins long =
    let whole : take (length (first ∷ byte ∷ rest) - 2) rest ≡ rest = ap (λ n. take n rest) (omega arith) ∙ take-length rest in
    ap (λ first. first ∷ byte ∷ rest) (ap (λ l. get_or l 0 0) begins) ∙ ap (λ rest. 92 ∷ byte ∷ rest) (sym whole)

is_quote_or_backslash : (byte : ℕ) → is_escaped byte ≡ true → (byte ≡ 34) ⊎ (byte ≡ 92)
is_quote_or_backslash byte special = elim
    (or_cases (byte == 34) (byte == 92) special) [ inl quote ↦ inl (eqb-true byte 34 quote) | inr backslash ↦ inr (eqb-true byte 92 backslash) ]

is_small : (byte : ℕ) → is_escaped byte ≡ true → (byte < 128) × (byte ≢ 10)
is_small byte special = elim
    (is_quote_or_backslash byte special) [
      | inl quote ↦ (omega arith, λ line. absurd (omega arith))
      | inr backslash ↦
          (omega arith, λ line. absurd (omega arith))
    ]

module _ (text : List ℕ) (byte : ℕ) (rest : List ℕ) (cut : text ≡ 92 ∷ byte ∷ rest) (bytes : ℕ) where
  pub escape-IsTaken : is_escaped byte ≡ true → IsUtf8 text → bytes + 1 ≤ 8192 → IsTaken text bytes (bytes + 1) rest
  escape-IsTaken special utf8 short =
      let small = is_small byte special in
      let stands : escaped (byte ∷ []) ≡ 92 ∷ byte ∷ [] = rw special refl in
      record {
        character = byte ∷ [];
        whole = cut ∙ ap (λ front. front ++ rest) (sym stands);
        some = omega arith;
        added = omega arith;
        short = short;
        one_line = no_line_feed-All (byte ∷ []) (All-cons (λ byte. byte ≢ 10) byte [] small.1 (All-nil (λ byte. byte ≢ 10)));
        utf8 = utf8_behind (92 ∷ []) byte rest small.0 (subst IsUtf8 cut utf8);
      }

  pub escape-too_long : is_escaped byte ≡ true → (left : List ℕ) (kind : TextKind) → IsTooLong text (bytes + 1) left kind
      → IsCharacterFault text bytes left kind
  escape-too_long special left kind long = λ label same. IsCutLabel.escape_over byte rest cut (is_quote_or_backslash byte special)
      (omega (arith, long.2)) long.0 long.1

  pub no_escape-fault : is_escaped byte ≡ false → IsCharacterFault text bytes text BadLabel
  no_escape-fault special =
      let parts = or_parts (byte == 34) (byte == 92) special in
      λ label same. IsCutLabel.no_escape byte rest cut (eqb-false byte 34 parts.0) (eqb-false byte 92 parts.1) refl refl

-- ---- a character that stands as it is
-- a slice to its end
pub rest_of : (n : ℕ) (text : List ℕ) → take (length text - n) (drop n text) ≡ drop n text
rest_of n text = ap (λ size. take size (drop n text)) (sym (length-drop n text)) ∙ take-length (drop n text)

module _ (text : List ℕ) (byte : ℕ) (more : List ℕ) (cut : text ≡ byte ∷ more) (no_quote : byte ≢ 34) (no_backslash : byte ≢ 92) (no_line_feed : byte ≢ 10)
    (utf8 : IsUtf8 text) where
  abbrev found : ℕ
  found = position_or_len begins_character more

  abbrev behind : ℕ
  behind = length (continuation_of more)

  abbrev back : List ℕ
  back = drop found more

  whole : more ≡ continuation_of more ++ back
  whole = sym (take-append-drop found more)

  back-is : drop (1 + behind) text ≡ back
  back-is =
      let next : 1 + behind ≡ suc behind = omega arith in
      ap (drop (1 + behind)) cut ∙ ap (λ n. drop n (byte ∷ more)) next ∙ ap (drop behind) whole ∙ drop-append_seam (continuation_of more) back

  first_begins : 128 ≤ byte → 192 ≤ byte
  first_begins above = let boundary : IsCharBoundary (byte ∷ more) 0 = IsCharBoundary-start (byte ∷ more) (subst IsUtf8 cut utf8) in boundary.1
      (omega arith) above

  boundary : IsCharBoundary text (1 + behind)
  boundary = (omega (arith, ap length cut, length-take found more), next)
    where
      at : get_or text (1 + behind) 0 ≡ get_or more behind 0
      at = let next : 1 + behind ≡ suc behind = omega arith in ap (λ text. get_or text (1 + behind) 0) cut ∙ ap (λ n. get_or (byte ∷ more) n 0) next

      next : 1 + behind < length text → 128 ≤ get_or text (1 + behind) 0 → 192 ≤ get_or text (1 + behind) 0
      next within above =
          let inner : found < length more = omega (arith, within, ap length cut, length-take found more) in
          let same : behind ≡ found = omega (arith, inner, length-take found more) in
          let begins : begins_character (get_or more found 0) ≡ true = passes_at_first begins_character more 0 inner in
          let here : get_or more behind 0 ≡ get_or more found 0 = ap (λ n. get_or more n 0) same in
          omega (arith, at, here, begins-range (get_or more found 0) begins, above)

  All-character : (P : ℕ → Type 0) → P byte → ((other : ℕ) → 127 < other → P other) → All P (byte ∷ continuation_of more)
  All-character P here others = All-cons P byte (continuation_of more) here
      (All-weaker IsContinuation P (λ other range. others other range.0) (continuation_of more) (All-continuation more))

  pub plain-IsTaken : (bytes n : ℕ) (rest : List ℕ) → n ≡ behind → rest ≡ drop (1 + n) text → bytes + (1 + n) ≤ 8192 → IsTaken text bytes (bytes + (1 + n)) rest
  plain-IsTaken bytes n rest is ends short =
      let stands : escaped (byte ∷ continuation_of more) ≡ byte ∷ continuation_of more = escaped-plain (byte ∷ continuation_of more)
      (All-character IsPlain (no_quote, no_backslash) (λ other above. (λ e. absurd (omega arith), λ e. absurd (omega arith)))) in
      let ends_so : rest ≡ back = ends ∙ ap (λ n. drop (1 + n) text) is ∙ back-is in
      record {
        character = byte ∷ continuation_of more;
        whole = cut ∙ ap (λ more. byte ∷ more) whole ∙ ap (λ rest. (byte ∷ continuation_of more) ++ rest) (sym ends_so)
            ∙ ap (λ front. front ++ rest) (sym stands);
        some = omega arith;
        added = omega arith;
        short = short;
        one_line = no_line_feed-All (byte ∷ continuation_of more) (All-character (λ byte. byte ≢ 10) no_line_feed (λ other above e. absurd (omega arith)));
        utf8 = subst IsUtf8 (back-is ∙ sym ends_so) (IsUtf8-drop text (1 + behind) utf8 boundary);
      }

  pub plain-too_long : (bytes n : ℕ) → n ≡ behind → (left : List ℕ) (kind : TextKind) → IsTooLong text (bytes + (1 + n)) left kind
      → IsCharacterFault text bytes left kind
  plain-too_long bytes n is left kind long = λ label same. IsCutLabel.character_over byte more cut no_quote no_backslash
      (begins-from_range byte first_begins) (omega (arith, long.2, is, same)) long.0 long.1

-- ---- what is answered for a character
pub taken_within : (text rest : List ℕ) (before bytes : ℕ) (result : Result (Option Taken) Stop)
    → IfOk result (λ next. MatchOption next ⊥ (λ taken. (taken.bytes ≡ bytes) × (taken.rest.now ≡ rest) × (bytes ≤ 8192)))
    → (bytes ≤ 8192 → IsTaken text before bytes rest)
    → IfOk result (λ next. MatchOption next (BeginsWithQuote text) (λ taken. IsTaken text before taken.bytes taken.rest.now))
taken_within text rest before bytes (Ok (Some taken)) told is = subst (λ n. IsTaken text before n taken.rest.now) (sym told.0)
    (subst (IsTaken text before bytes) (sym told.1) (is told.2))
taken_within text rest before bytes (Ok None) told is = absurd told
taken_within text rest before bytes (Err stop) told is = tt

-- ---- one character after the other
-- so many bytes of a label were taken, and the rest stands behind them
pub record IsWalked (inside : List ℕ) (bytes : ℕ) (rest : List ℕ) : Type 0 where
  pub label : Label
  pub whole : inside ≡ escaped label ++ rest
  pub size : length label ≡ bytes
  pub is_label : IsLabel label
  pub utf8 : IsUtf8 rest

module _ (inside : List ℕ) (bytes : ℕ) (rest : List ℕ) (walked : IsWalked inside bytes rest) where
  pub IsWalked-more : (size : ℕ) (next : List ℕ) → IsTaken rest bytes size next → IsWalked inside size next
  IsWalked-more size next taken = record {
    label = walked.label ++ taken.character;
    whole = walked.whole ∙ ap (λ rest. escaped walked.label ++ rest) taken.whole ∙ sym (append_assoc (escaped walked.label) (escaped taken.character) next)
        ∙ ap (λ front. front ++ next) (sym (escaped-append walked.label taken.character));
    size = length-append walked.label taken.character ∙ ap (λ n. n + length taken.character) walked.size ∙ sym taken.added;
    is_label = record {
      short = omega (arith, length-append walked.label taken.character, walked.size, taken.added, taken.short);
      one_line = λ contains. elim
          (Contains-append_cases walked.label taken.character 10 contains) [ inl before ↦ walked.is_label.one_line before | inr in' ↦ taken.one_line in' ];
    };
    utf8 = taken.utf8;
  }

  pub IsCutBehind-walked : (left : List ℕ) (kind : TextKind) → IsCharacterFault rest bytes left kind → IsCutBehind inside left kind
  IsCutBehind-walked left kind fault = record
      { label = walked.label; after = rest; whole = walked.whole; is_label = walked.is_label; cut = fault walked.label walked.size }

-- where the label ends its text is cut
pub closed-parts : (inside : List ℕ) (end : ℕ) (closed : IsClosedAt inside end)
    → (take end inside ≡ escaped closed.label) × (drop (end + 1) inside ≡ closed.rest) × (end < length inside)
closed-parts inside end closed = (front, back, omega (arith, closed.place, ap length closed.whole, length-append (escaped closed.label) (34 ∷ closed.rest)))
  where
    front : take end inside ≡ escaped closed.label
    front = ap (λ n. take n inside) closed.place ∙ ap (take (length (escaped closed.label))) closed.whole
        ∙ take-append_seam (escaped closed.label) (34 ∷ closed.rest)

    long : end + 1 ≡ length (escaped closed.label ++ 34 ∷ [])
    long = omega (arith, closed.place, length-append (escaped closed.label) (34 ∷ []))

    back : drop (end + 1) inside ≡ closed.rest
    back = ap (λ n. drop n inside) long
        ∙ ap (drop (length (escaped closed.label ++ 34 ∷ []))) (closed.whole ∙ sym (append_assoc (escaped closed.label) (34 ∷ []) closed.rest))
        ∙ drop-append_seam (escaped closed.label ++ 34 ∷ []) closed.rest

-- ---- a line feed
pub line_feed-fault : (text : List ℕ) (bytes : ℕ) → 1 ≤ length text → get_or text 0 0 ≡ 10 → IsCharacterFault text bytes text BadLabel
line_feed-fault [] bytes some first = absurd (omega arith)
line_feed-fault (byte ∷ more) bytes some first = λ label same. IsCutLabel.line_feed more (ap (λ byte. byte ∷ more) first) refl refl

-- ---- the label behind its opening quote
module _ (text inside : List ℕ) (opens : skip_blanks text ≡ 34 ∷ inside) where
  pub stands_where_closed : (end : ℕ) → IsClosedAt inside end → (quoted label rest : List ℕ) → quoted ≡ take end inside → rest ≡ drop (end + 1) inside
      → IsQuoted quoted label → StandsLabel text label rest
  stands_where_closed end closed quoted label rest front back is =
      let parts = closed-parts inside end closed in
      let same : escaped closed.label ≡ escaped label = sym parts.0 ∙ sym front ∙ is.whole in
      let behind : closed.rest ≡ rest = sym parts.1 ∙ sym back in
      record {
        whole = opens ∙ ap (λ inside. 34 ∷ inside) (closed.whole ∙ ap (λ front. front ++ 34 ∷ closed.rest) same
            ∙ ap (λ rest. escaped label ++ 34 ∷ rest) behind);
        is_label = IsLabel-quoted quoted label is;
      }

  pub fault_where_cut : (left : List ℕ) (kind : TextKind) → IsCutBehind inside left kind → IsLabelFault text left kind
  fault_where_cut left kind cut = IsLabelFault.cut cut.label cut.after (opens ∙ ap (λ inside. 34 ∷ inside) cut.whole) cut.is_label cut.cut

module _ (inside : List ℕ) (end : ℕ) (closed : IsClosedAt inside end) where
  -- what stands before the closing quote stands for the label
  pub quoted_where_closed : IsQuoted (take end inside) closed.label
  quoted_where_closed = record {
    whole =
        (closed-parts inside end closed).0;
    short = closed.is_label.short;
    one_line = has_line_feed-none closed.label closed.is_label.one_line;
  }

  pub utf8_where_closed : IsUtf8 inside → IsUtf8 (take end inside)
  utf8_where_closed utf8 = subst IsUtf8 (sym (closed-parts inside end closed).0)
      (utf8_before (escaped closed.label) 34 closed.rest (omega arith) (subst IsUtf8 closed.whole utf8))
