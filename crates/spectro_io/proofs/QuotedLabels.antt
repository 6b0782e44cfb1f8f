-- The escapes of a label, and how they are undone.
use Rattle.std.proofs.Common.{◌≡◌, ◌∙◌, ◌⊎◌, inl, inr, ℕ, ◌<◌, ◌≤◌, Bool, true, false, cond, ◌||◌, not, List, [], ◌∷◌, ◌++◌, length, Option, None, Some, refl, sym, ap, subst, arith, append_assoc}
use Rattle.std.specs.Prelude.{◌==◌}
use Rattle.std.specs.Prelude.{Vec, String, Result, Ok, Err, IfOk, IsOk, MatchOption, string_bytes}
use Rattle.std.specs.declared.alloc.Global.{Global}
use Rattle.std.specs.Option.{option_map}
use Rattle.std.specs.Result.{result_ok}
use Rattle.std.specs.Str.{IsUtf8}
use Rattle.std.specs.String.{string_vec}
use Rattle.std.proofs.lemmas.Bool.{true≢false, cases_Bool, eqb-true, or_cases, or_parts, or_from}
use Rattle.std.proofs.lemmas.Option.{none-some, same_Some}
use Rattle.std.proofs.lemmas.Str.{IsUtf8-append}
use Rattle.spectro_io.specs.LineReaders.{has_line_feed}
use Rattle.spectro_io.specs.QuotedLabels.{is_escaped, escaped, IsQuoted}
use Rattle.spectro_io.specs.Unescaping.{unescaped_behind}
use Rattle.spectro_io.proofs.Utf8Cuts.{utf8_before, utf8_behind}

special-no_line_feed : (byte : ℕ) → is_escaped byte ≡ true → (byte == 10) ≡ false
special-no_line_feed byte special = elim (or_cases (byte == 34) (byte == 92) special) [
  | inl quote ↦ ap (λ byte. byte == 10) (eqb-true byte 34 quote)
  | inr backslash ↦ ap (λ byte. byte == 10) (eqb-true byte 92 backslash)
]

escaped-special : (byte : ℕ) (label : List ℕ) → is_escaped byte ≡ true → escaped (byte ∷ label) ≡ 92 ∷ byte ∷ escaped label
escaped-special byte label special = rw special refl

escaped-plain : (byte : ℕ) (label : List ℕ) → is_escaped byte ≡ false → escaped (byte ∷ label) ≡ byte ∷ escaped label
escaped-plain byte label plain = rw plain refl

pub escaped-append : (front back : List ℕ) → escaped (front ++ back) ≡ escaped front ++ escaped back
escaped-append [] back = refl
escaped-append (byte ∷ front) back = by (is_escaped byte) refl (escaped-append front back)
  where
    by : (special : Bool) → is_escaped byte ≡ special → escaped (front ++ back) ≡ escaped front ++ escaped back
        → escaped (byte ∷ front ++ back) ≡ escaped (byte ∷ front) ++ escaped back
    by true special later = rw (special, later) refl
    by false special later = rw (special, later) refl

-- what is escaped is undone
pub unescaped-escaped : (label : List ℕ) → has_line_feed label ≡ false → unescaped_behind false (escaped label) ≡ Some label
unescaped-escaped [] none = refl
unescaped-escaped (byte ∷ label) none = by (is_escaped byte) refl (or_parts (byte == 10) (has_line_feed label) none).0
    (unescaped-escaped label (or_parts (byte == 10) (has_line_feed label) none).1)
  where
    by : (special : Bool) → is_escaped byte ≡ special → (byte == 10) ≡ false → unescaped_behind false (escaped label) ≡ Some label
        → unescaped_behind false (escaped (byte ∷ label)) ≡ Some (byte ∷ label)
    by true special other later = rw (special, special, later) refl
    by false special other later =
        let parts = or_parts (byte == 34) (byte == 92) special in
        let quote : (byte == 34) ≡ false = parts.0 in
        let backslash : (byte == 92) ≡ false = parts.1 in
        rw (special, quote, other, backslash, later) refl

-- a choice that gave something
kept : {X : Type 0} (test : Bool) (others : Option X) (x : X) → cond test None others ≡ Some x → (test ≡ false) × (others ≡ Some x)
kept true others x e = cc
kept false others x e = (refl, e)

either : {X : Type 0} (test : Bool) (one other : Option X) (x : X) → cond test one other ≡ Some x
    → ((test ≡ true) × (one ≡ Some x)) ⊎ ((test ≡ false) × (other ≡ Some x))
either true one other x e = inl (refl, e)
either false one other x e = inr (refl, e)

mapped : (byte : ℕ) (rest : Option (List ℕ)) (label : List ℕ) → option_map (λ label. byte ∷ label) rest ≡ Some label
    → (others : List ℕ) × (rest ≡ Some others) × (label ≡ byte ∷ others)
mapped byte None label e = cc
mapped byte (Some others) label e = (others, refl, cc)

-- what stands with the backslash that may stand before it
abbrev with_backslash : Bool → List ℕ → List ℕ
with_backslash true bytes = 92 ∷ bytes
with_backslash false bytes = bytes

-- the label that is read stands so, escaped
pub unescaped-sound : (bytes : List ℕ) (backslash : Bool) (label : List ℕ) → unescaped_behind backslash bytes ≡ Some label
    → (with_backslash backslash bytes ≡ escaped label) × (has_line_feed label ≡ false)
unescaped-sound [] true label e = cc
unescaped-sound [] false label e = let same : [] ≡ label = cc in (ap escaped same, ap has_line_feed (sym same))
unescaped-sound (byte ∷ bytes) true label e =
    let fits = kept (not (is_escaped byte)) (option_map (λ label. byte ∷ label) (unescaped_behind false bytes)) label e in
    let rest = mapped byte (unescaped_behind false bytes) label fits.1 in
    let later = unescaped-sound bytes false rest.0 rest.1 in
    let special : is_escaped byte ≡ true = elim
    (cases_Bool (is_escaped byte)) [ inl here ↦ here | inr none ↦ let h : not (is_escaped byte) ≡ true = ap not none in cc ] in
    let other : (byte == 10) ≡ false = special-no_line_feed byte special in (
      ap (λ bytes. 92 ∷ byte ∷ bytes) later.0 ∙ sym (escaped-special byte rest.0 special) ∙ ap escaped (sym rest.2),
      ap has_line_feed rest.2
          ∙ or_from (byte == 10) (has_line_feed rest.0) other later.1,
    )
unescaped-sound (byte ∷ bytes) false label e =
    let fits = kept ((byte == 34) || (byte == 10))
    (cond (byte == 92) (unescaped_behind true bytes) (option_map (λ label. byte ∷ label) (unescaped_behind false bytes))) label e in
    let plain = or_parts (byte == 34) (byte == 10) fits.0 in
    elim (either (byte == 92) (unescaped_behind true bytes) (option_map (λ label. byte ∷ label) (unescaped_behind false bytes)) label fits.1) [
      | inl backslash ↦ let later = unescaped-sound bytes true label backslash.1 in (
        ap (λ byte. byte ∷ bytes) (eqb-true byte 92 backslash.0)
            ∙ later.0,
        later.1,
      )
      | inr other ↦
          let rest = mapped byte (unescaped_behind false bytes) label other.1 in
          let later = unescaped-sound bytes false rest.0 rest.1 in
          let special : is_escaped byte ≡ false = or_from (byte == 34) (byte == 92) plain.0 other.0 in (
            ap (λ bytes. byte ∷ bytes) later.0 ∙ sym (escaped-plain byte rest.0 special) ∙ ap escaped (sym rest.2),
            ap has_line_feed rest.2
                ∙ or_from (byte == 10) (has_line_feed rest.0) plain.1 later.1,
          )
    ]

-- without its escapes a label is UTF-8 still
pub utf8-escaped : (label front : List ℕ) → IsUtf8 (front ++ escaped label) → IsUtf8 (front ++ label)
utf8-escaped [] front utf8 = utf8
utf8-escaped (byte ∷ label) front utf8 = by (is_escaped byte) refl (utf8-escaped label (front ++ byte ∷ []))
  where
    one : (bytes : List ℕ) → (front ++ byte ∷ []) ++ bytes ≡ front ++ byte ∷ bytes
    one bytes = append_assoc front (byte ∷ []) bytes

    by : (special : Bool) → is_escaped byte ≡ special → (IsUtf8 ((front ++ byte ∷ []) ++ escaped label) → IsUtf8 ((front ++ byte ∷ []) ++ label))
        → IsUtf8 (front ++ byte ∷ label)
    by true special later =
        let begun : IsUtf8 (front ++ 92 ∷ byte ∷ escaped label) = subst
        (λ b. IsUtf8 (front ++ cond b (92 ∷ byte ∷ escaped label) (byte ∷ escaped label))) special utf8 in
        let whole : IsUtf8 (front ++ byte ∷ escaped label) = IsUtf8-append front (byte ∷ escaped label)
        (utf8_before front 92 (byte ∷ escaped label) (omega arith) begun) (utf8_behind front 92 (byte ∷ escaped label) (omega arith) begun) in
        subst IsUtf8 (one label) (later (subst IsUtf8 (sym (one (escaped label))) whole))
    by false special later =
        let whole : IsUtf8 (front ++ byte ∷ escaped label) = subst
        (λ b. IsUtf8 (front ++ cond b (92 ∷ byte ∷ escaped label) (byte ∷ escaped label))) special utf8 in
        subst IsUtf8 (one label) (later (subst IsUtf8 (sym (one (escaped label))) whole))

-- what is read is the one label that stands so, if it is short; where nothing is read there is none
module _ (inside : List ℕ) (label : List ℕ) (is : IsQuoted inside label) where
  unescaped-quoted : unescaped_behind false inside ≡ Some label
  unescaped-quoted = ap (unescaped_behind false) is.whole ∙ unescaped-escaped label is.one_line

  pub not_none : None ≡ unescaped_behind false inside → ⊥
  not_none none = none-some label (none ∙ unescaped-quoted)

  pub not_long : (found : List ℕ) → Some found ≡ unescaped_behind false inside → 8192 < length found → ⊥
  not_long found e long =
      let same : found ≡ label = same_Some found label (e ∙ unescaped-quoted) in
      let short : length label ≤ 8192 = is.short in
      omega (arith, ap length same)

-- what stands between quotes is of one label
pub label-once : (inside label other : List ℕ) → IsQuoted inside label → IsQuoted inside other → label ≡ other
label-once inside label other one two = same_Some label other (sym (unescaped-quoted inside label one) ∙ unescaped-quoted inside other two)

pub found-IsQuoted : (inside found : List ℕ) → Some found ≡ unescaped_behind false inside → length found ≤ 8192 → IsQuoted inside found
found-IsQuoted inside found e short =
    let sound = unescaped-sound inside false found (sym e) in
    record { whole = sound.0; short = short; one_line = sound.1 }

pub utf8-quoted : (inside label : List ℕ) → IsQuoted inside label → IsUtf8 inside → IsUtf8 label
utf8-quoted inside label is utf8 = utf8-escaped label [] (subst IsUtf8 is.whole utf8)

-- the bytes of a label that stands so in UTF-8 are taken as a text
pub told-IsQuoted : {E : Type 0} (inside : List ℕ) (label : Vec ℕ Global) (result : Result (String Global) E)
    → IfOk result (λ text. string_vec text ≡ label) → (IsUtf8 label.items → IsOk result) → IsUtf8 inside
    → IsQuoted inside label.items → MatchOption (result_ok result) ((other : List ℕ) → ¬ IsQuoted inside other) (λ text. IsQuoted inside (string_bytes text))
told-IsQuoted inside label (Ok text) same succeeds utf8 is = subst (λ vec. IsQuoted inside vec.items) (sym same) is
told-IsQuoted inside label (Err e) same succeeds utf8 is = absurd (true≢false (sym (succeeds (utf8-quoted inside label.items is utf8))))
