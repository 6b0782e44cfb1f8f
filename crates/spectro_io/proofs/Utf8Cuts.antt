-- What stands before and behind bytes of ASCII in UTF-8 is UTF-8.
use Rattle.std.proofs.Common.{◌≡◌, ◌∙◌, inl, inr, ℕ, ◌+◌, ◌<◌, true, List, [], ◌∷◌, ◌++◌, length, drop, get_or, sym, ap, subst, arith, append_assoc, length-append}
use Rattle.std.specs.Prelude.{◌==◌}
use Rattle.std.specs.List.{list_all}
use Rattle.std.specs.Str.{IsUtf8, IsCharBoundary}
use Rattle.std.proofs.Math.Seq.{take-append_seam, drop-append_seam}
use Rattle.std.proofs.lemmas.Bool.{and_parts, eqb-true, or_cases}
use Rattle.std.proofs.lemmas.List.{get_or-append-add}
use Rattle.std.proofs.lemmas.Str.{IsUtf8-take, IsUtf8-drop, IsCharBoundary-before_ascii, IsCharBoundary-after_ascii}
use Rattle.spectro_io.specs.Blanks.{is_blank, skip_blanks, AreBlanks}
use Rattle.spectro_io.proofs.Blanks.{blanks_before}

-- one byte
module _ (front : List ℕ) (byte : ℕ) (back : List ℕ) (small : byte < 128) (utf8 : IsUtf8 (front ++ byte ∷ back)) where
  here : get_or (front ++ byte ∷ back) (length front) 0 ≡ byte
  here = ap (λ place. get_or (front ++ byte ∷ back) place 0) (omega arith) ∙ get_or-append-add front (byte ∷ back) 0 0

  pub utf8_before : IsUtf8 front
  utf8_before =
      let boundary : IsCharBoundary (front ++ byte ∷ back) (length front) = IsCharBoundary-before_ascii (front ++ byte ∷ back) (length front)
      (omega (arith, length-append front (byte ∷ back))) (omega (arith, here, small)) in
      subst IsUtf8 (take-append_seam front (byte ∷ back)) (IsUtf8-take (front ++ byte ∷ back) (length front) utf8 boundary)

  pub utf8_behind : IsUtf8 back
  utf8_behind =
      let boundary : IsCharBoundary (front ++ byte ∷ back) (length front + 1) = IsCharBoundary-after_ascii (front ++ byte ∷ back) (length front) utf8
      (omega (arith, length-append front (byte ∷ back))) (omega (arith, here, small)) in
      let cut : drop (length front + 1) (front ++ byte ∷ back) ≡ back = ap (λ n. drop n (front ++ byte ∷ back))
      (omega (arith, length-append front (byte ∷ []))) ∙ ap (drop (length (front ++ byte ∷ []))) (sym (append_assoc front (byte ∷ []) back))
      ∙ drop-append_seam (front ++ byte ∷ []) back in
      subst IsUtf8 cut (IsUtf8-drop (front ++ byte ∷ back) (length front + 1) utf8 boundary)

-- blanks
blank-small : (byte : ℕ) → is_blank byte ≡ true → byte < 128
blank-small byte blank = elim
    (or_cases (byte == 32) (byte == 9) blank) [ inl space ↦ omega (arith, eqb-true byte 32 space) | inr tab ↦ omega (arith, eqb-true byte 9 tab) ]

pub utf8_behind_blanks : (blanks back : List ℕ) → AreBlanks blanks → IsUtf8 (blanks ++ back) → IsUtf8 back
utf8_behind_blanks [] back all utf8 = utf8
utf8_behind_blanks (byte ∷ blanks) back all utf8 =
    let parts = and_parts (is_blank byte) (list_all is_blank blanks) all in
    utf8_behind_blanks blanks back parts.1 (utf8_behind [] byte (blanks ++ back) (blank-small byte parts.0) utf8)

-- blanks, if any, and then a byte of ASCII
pub utf8_before_blanks : (front blanks : List ℕ) (byte : ℕ) (back : List ℕ) → AreBlanks blanks → byte < 128 → IsUtf8 (front ++ (blanks ++ byte ∷ back))
    → IsUtf8 front
utf8_before_blanks front [] byte back all small utf8 = utf8_before front byte back small utf8
utf8_before_blanks front (blank ∷ blanks) byte back all small utf8 =
    utf8_before front blank (blanks ++ byte ∷ back) (blank-small blank (and_parts (is_blank blank) (list_all is_blank blanks) all).0) utf8

pub utf8-skip_blanks : (text : List ℕ) → IsUtf8 text → IsUtf8 (skip_blanks text)
utf8-skip_blanks text utf8 = let before = blanks_before text in utf8_behind_blanks before.0 (skip_blanks text) before.2 (subst IsUtf8 before.1 utf8)
