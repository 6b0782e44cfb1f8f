-- What is read of a label in quotes: the label that stands there, or the fault at which it is cut.
use Rattle.std.proofs.Common.{◌≡◌, ◌∙◌, ℕ, ◌+◌, ◌≤◌, Bool, true, false, cond, not, ◌&&◌, ◌||◌, List, [], ◌∷◌, ◌++◌, length, refl, ap, arith, inl, inr}
use Rattle.std.specs.Prelude.{◌⊎◌, ◌≢◌, ◌==◌, nat_lt, Contains, if◌then◌else◌}
use Rattle.std.proofs.lemmas.Bool.{lt-ltb, le-ltb, or_left, or_right, or_from, and_right, ne_eqb, eq-eqb, or_parts}
use Rattle.std.proofs.lemmas.List.Sums.{take_while-cons}
use Rattle.std.proofs.lemmas.List.Elements.{Contains-append_right}
use Rattle.spectro_io.specs.Blanks.{skip_blanks}
use Rattle.spectro_io.specs.QuotedLabels.{is_escaped, escaped}
use Rattle.spectro_spec.specs.System.{Label}
use Rattle.spectro_hmltext.specs.declared.error.TextKind.{TextKind}
use Rattle.spectro_hmltext.specs.declared.error.TextKind.TheVariants.{BadLabel, UnexpectedEnd}
use Rattle.spectro_hmltext.specs.declared.token.Token.{Token}
use Rattle.spectro_hmltext.specs.declared.token.Token.TheVariants.{Quote}
use Rattle.spectro_hmltext.specs.Tokens.{token_of, behind_token, front_token, behind_front}
use Rattle.spectro_hmltext.specs.FormulaTexts.{StandsLabel}
use Rattle.spectro_hmltext.specs.Faults.{IsCutLabel, IsLabelFault, continuation_of}
use Rattle.spectro_hmltext.proofs.Outcomes.{Outcome, given, fault, mapped, misplaced, misplaced_fault, same_fault}

-- a byte that is not the first of its character
abbrev is_continuation : ℕ → Bool
is_continuation byte = nat_lt 127 byte && nat_lt byte 192

-- a label behind its first quote, where so many bytes of it were read; a backslash may stand before these bytes
abbrev scanned : Bool → ℕ → List ℕ → Outcome Label
scanned backslash taken [] = fault [] UnexpectedEnd
scanned true taken (byte ∷ more) = if not (is_escaped byte) || nat_lt 8192 (taken + 1) then fault (92 ∷ byte ∷ more) BadLabel else mapped
    (λ label. byte ∷ label) (scanned false (taken + 1) more)
scanned false taken (byte ∷ more) =
    if byte == 34 then given [] more
    else (if byte == 92 then scanned true taken more
    else (if (byte == 10) || (not (is_continuation byte) && nat_lt 8192 (taken + 1 + length (continuation_of more))) then fault (byte ∷ more) BadLabel
    else mapped (λ label. byte ∷ label) (scanned false (taken + 1) more)))

-- no more bytes are behind the first of a character than there are before the next one
continuation-first : (byte : ℕ) (more : List ℕ) → is_continuation byte ≡ false → length (continuation_of (byte ∷ more)) ≡ 0
continuation-first byte more first = ap length (take_while-cons (λ byte. not (not (is_continuation byte))) byte more) ∙ rw first refl

continuation-cons : (byte : ℕ) (more : List ℕ) → length (continuation_of (byte ∷ more)) ≤ length (continuation_of more) + 1
continuation-cons byte more = by (is_continuation byte) (ap length (take_while-cons (λ byte. not (not (is_continuation byte))) byte more))
  where
    by : (continues : Bool) → length (continuation_of (byte ∷ more)) ≡ length (cond (not (not continues)) (byte ∷ continuation_of more) [])
        → length (continuation_of (byte ∷ more)) ≤ length (continuation_of more) + 1
    by true is = omega arith
    by false is = omega arith

continuation-escaped : (label after : List ℕ) → length (continuation_of after) ≡ 0 → length (continuation_of (escaped label ++ after)) ≤ length label
continuation-escaped [] after stops = omega arith
continuation-escaped (byte ∷ label) after stops = by (is_escaped byte) refl (continuation-escaped label after stops)
  where
    by : (special : Bool) → is_escaped byte ≡ special → length (continuation_of (escaped label ++ after)) ≤ length label
        → length (continuation_of (escaped (byte ∷ label) ++ after)) ≤ length (byte ∷ label)
    by true special others = let none : length (continuation_of (92 ∷ byte ∷ escaped label ++ after)) ≡ 0 = refl in rw special (omega (arith, none))
    by false special others = rw special (omega (arith, others, continuation-cons byte (escaped label ++ after)))

-- a byte of the label, with its escape
scanned-special : (byte taken : ℕ) (more : List ℕ) → is_escaped byte ≡ true → taken + 1 ≤ 8192
    → scanned false taken (92 ∷ byte ∷ more) ≡ mapped (λ label. byte ∷ label) (scanned false (taken + 1) more)
scanned-special byte taken more special room =
    let short : nat_lt 8192 (taken + 1) ≡ false = le-ltb 8192 (taken + 1) room in
    rw (special, short) refl

scanned-plain : (byte taken : ℕ) (more : List ℕ) → is_escaped byte ≡ false → (byte == 10) ≡ false → taken + 1 + length (continuation_of more) ≤ 8192
    → scanned false taken (byte ∷ more) ≡ mapped (λ label. byte ∷ label) (scanned false (taken + 1) more)
scanned-plain byte taken more plain no_end room =
    let parts = or_parts (byte == 34) (byte == 92) plain in
    let quote : (byte == 34) ≡ false = parts.0 in
    let backslash : (byte == 92) ≡ false = parts.1 in
    let short : (not (is_continuation byte) && nat_lt 8192 (taken + 1 + length (continuation_of more))) ≡ false = and_right _ _
    (le-ltb 8192 (taken + 1 + length (continuation_of more)) room) in
    rw (quote, backslash, no_end, short) refl

scanned-cons : (byte : ℕ) (label after : List ℕ) (taken : ℕ) → length (continuation_of after) ≡ 0 → ¬ Contains (byte ∷ label) 10
    → taken + length (byte ∷ label) ≤ 8192
    → scanned false taken (escaped (byte ∷ label) ++ after) ≡ mapped (λ label. byte ∷ label) (scanned false (taken + 1) (escaped label ++ after))
scanned-cons byte label after taken stops one_line room = by (is_escaped byte) refl
  where
    no_end : (byte == 10) ≡ false
    no_end = ne_eqb byte 10 (λ is. one_line (0, omega arith, is))

    by : (special : Bool) → is_escaped byte ≡ special
        → scanned false taken (escaped (byte ∷ label) ++ after) ≡ mapped (λ label. byte ∷ label) (scanned false (taken + 1) (escaped label ++ after))
    by true special =
        let escape : escaped (byte ∷ label) ≡ 92 ∷ byte ∷ escaped label = rw special refl in
        ap (λ bytes. scanned false taken (bytes ++ after)) escape ∙ scanned-special byte taken (escaped label ++ after) special (omega arith)
    by false special =
        let escape : escaped (byte ∷ label) ≡ byte ∷ escaped label = rw special refl in
        ap (λ bytes. scanned false taken (bytes ++ after)) escape
        ∙ scanned-plain byte taken (escaped label ++ after) special no_end (omega (arith, room, continuation-escaped label after stops))

tail_one_line : (byte : ℕ) (label : List ℕ) → ¬ Contains (byte ∷ label) 10 → ¬ Contains label 10
tail_one_line byte label one_line within = one_line (Contains-append_right (byte ∷ []) label 10 within)

-- the label that stands there
scanned_label : (label rest : List ℕ) (taken : ℕ) → ¬ Contains label 10 → taken + length label ≤ 8192
    → scanned false taken (escaped label ++ 34 ∷ rest) ≡ given label rest
scanned_label [] rest taken one_line room = refl
scanned_label (byte ∷ label) rest taken one_line room =
    scanned-cons byte label (34 ∷ rest) taken refl one_line room
    ∙ ap (mapped (λ label. byte ∷ label)) (scanned_label label rest (taken + 1) (tail_one_line byte label one_line) (omega arith))

-- the fault behind the bytes of a label
scanned_fault : (label after left : List ℕ) (kind : TextKind) (taken total : ℕ) → length (continuation_of after) ≡ 0 → ¬ Contains label 10
    → taken + length label ≡ total → total ≤ 8192 → scanned false total after ≡ fault left kind
    → scanned false taken (escaped label ++ after) ≡ fault left kind
scanned_fault [] after left kind taken total stops one_line sum room cut = let same : taken ≡ total = omega arith in ap
    (λ taken. scanned false taken after) same ∙ cut
scanned_fault (byte ∷ label) after left kind taken total stops one_line sum room cut =
    scanned-cons byte label after taken stops one_line (omega arith)
    ∙ ap (mapped (λ label. byte ∷ label))
    (scanned_fault label after left kind (taken + 1) total stops (tail_one_line byte label one_line) (omega arith) room cut)

special-false : (byte : ℕ) → byte ≢ 34 → byte ≢ 92 → is_escaped byte ≡ false
special-false byte quote backslash = or_from (byte == 34) (byte == 92) (ne_eqb byte 34 quote) (ne_eqb byte 92 backslash)

special-true : (byte : ℕ) → (byte ≡ 34) ⊎ (byte ≡ 92) → is_escaped byte ≡ true
special-true byte (inl quote) = or_left (byte == 34) (byte == 92) (eq-eqb byte 34 quote)
special-true byte (inr backslash) = or_right (byte == 34) (byte == 92) (eq-eqb byte 92 backslash)

-- where a label is cut, a character is whole before it
cut_stops : (label after left : List ℕ) (kind : TextKind) → IsCutLabel label after left kind → length (continuation_of after) ≡ 0
cut_stops label after left kind (IsCutLabel.ends is _ _) = rw is refl
cut_stops label after left kind (IsCutLabel.ends_in_escape is _ _) = rw is refl
cut_stops label after left kind (IsCutLabel.no_escape byte more is _ _ _ _) = rw is refl
cut_stops label after left kind (IsCutLabel.line_feed more is _ _) = rw is refl
cut_stops label after left kind (IsCutLabel.escape_over byte more is _ _ _ _) = rw is refl
cut_stops label after left kind (IsCutLabel.character_over byte more is _ _ first _ _ _) = rw is (continuation-first byte more first)

cut_scanned : (label after left : List ℕ) (kind : TextKind) → IsCutLabel label after left kind → scanned false (length label) after ≡ fault left kind
cut_scanned label after left kind (IsCutLabel.ends is is_left is_kind) = ap (scanned false (length label)) is
    ∙ same_fault left [] kind UnexpectedEnd is_left is_kind
cut_scanned label after left kind (IsCutLabel.ends_in_escape is is_left is_kind) = ap (scanned false (length label)) is
    ∙ same_fault left [] kind UnexpectedEnd is_left is_kind
cut_scanned label after left kind (IsCutLabel.no_escape byte more is quote backslash is_left is_kind) =
    let plain : is_escaped byte ≡ false = special-false byte quote backslash in
    let here : scanned false (length label) (92 ∷ byte ∷ more) ≡ fault (92 ∷ byte ∷ more) BadLabel = rw plain refl in
    ap (scanned false (length label)) is ∙ here ∙ same_fault left (92 ∷ byte ∷ more) kind BadLabel (is_left ∙ is) is_kind
cut_scanned label after left kind (IsCutLabel.line_feed more is is_left is_kind) = ap (scanned false (length label)) is
    ∙ same_fault left (10 ∷ more) kind BadLabel (is_left ∙ is) is_kind
cut_scanned label after left kind (IsCutLabel.escape_over byte more is which over is_left is_kind) =
    let special : is_escaped byte ≡ true = special-true byte which in
    let long : nat_lt 8192 (length label + 1) ≡ true = lt-ltb 8192 (length label + 1) over in
    let here : scanned false (length label) (92 ∷ byte ∷ more) ≡ fault (92 ∷ byte ∷ more) BadLabel = rw (special, long) refl in
    ap (scanned false (length label)) is ∙ here ∙ same_fault left (92 ∷ byte ∷ more) kind BadLabel (is_left ∙ is) is_kind
cut_scanned label after left kind (IsCutLabel.character_over byte more is quote backslash first over is_left is_kind) =
    let no_quote : (byte == 34) ≡ false = ne_eqb byte 34 quote in
    let no_backslash : (byte == 92) ≡ false = ne_eqb byte 92 backslash in
    let long : nat_lt 8192 (length label + 1 + length (continuation_of more)) ≡ true = lt-ltb 8192 (length label + 1 + length (continuation_of more)) over in
    let too_long : (not (is_continuation byte) && nat_lt 8192 (length label + 1 + length (continuation_of more))) ≡ true = rw (first, long) refl in
    let fails : ((byte == 10) ||
    (not (is_continuation byte) && nat_lt 8192 (length label + 1 + length (continuation_of more)))) ≡ true = or_right _ _ too_long in
    let here : scanned false (length label) (byte ∷ more) ≡ fault (byte ∷ more) BadLabel = rw (no_quote, no_backslash, fails) refl in
    ap (scanned false (length label)) is ∙ here ∙ same_fault left (byte ∷ more) kind BadLabel (is_left ∙ is) is_kind

abbrev quoted_outcome : Token → List ℕ → List ℕ → Outcome Label
quoted_outcome Quote text behind = scanned false 0 behind
quoted_outcome _ text behind = misplaced text

-- the label in quotes at the front of the text, or the fault there
abbrev pub label_outcome : List ℕ → Outcome Label
label_outcome text = quoted_outcome (token_of text) text (behind_token text)

quoted_other : (token : Token) (text behind : List ℕ) → token ≢ Quote → quoted_outcome token text behind ≡ misplaced text
quoted_other Quote text behind no_quote = absurd (no_quote refl)
quoted_other _ text behind no_quote = refl

outcome_behind_quote : (text inside : List ℕ) → skip_blanks text ≡ 34 ∷ inside → label_outcome text ≡ scanned false 0 inside
outcome_behind_quote text inside whole =
    let first : token_of text ≡ Quote = ap front_token whole in
    let behind : behind_token text ≡ inside = ap behind_front whole in
    ap (λ token. quoted_outcome token text (behind_token text)) first ∙ ap (scanned false 0) behind

-- a label that stands there is read
pub label_given : (text : List ℕ) (label : Label) (rest : List ℕ) → StandsLabel text label rest → label_outcome text ≡ given label rest
label_given text label rest stands =
    let is = stands.is_label in
    let short : length label ≤ 8192 = is.short in
    outcome_behind_quote text (escaped label ++ 34 ∷ rest) stands.whole ∙ scanned_label label rest 0 is.one_line (omega (arith, short))

-- a fault of a label is found
pub label_fault : (text left : List ℕ) (kind : TextKind) → IsLabelFault text left kind → label_outcome text ≡ fault left kind
label_fault text left kind (IsLabelFault.no_quote other is) = quoted_other (token_of text) text (behind_token text) other ∙ misplaced_fault text left kind is
label_fault text left kind (IsLabelFault.cut label after whole is cut) =
    let short : length label ≤ 8192 = is.short in
    outcome_behind_quote text (escaped label ++ after) whole
    ∙ scanned_fault label after left kind 0 (length label) (cut_stops label after left kind cut) is.one_line (omega arith) short
    (cut_scanned label after left kind cut)
