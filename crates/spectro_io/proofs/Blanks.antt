-- Blanks at the front and at the end of bytes.
use Rattle.std.proofs.Common.{◌≡◌, ◌∙◌, ℕ, ◌≤◌, Bool, true, false, List, [], ◌∷◌, ◌++◌, reverse, length, refl, sym, ap, subst, append_assoc, append-nil, arith}
use Rattle.std.specs.Prelude.{◌==◌, ◌↔◌, IsTrue}
use Rattle.std.specs.List.{list_all}
use Rattle.std.proofs.lemmas.Bool.{and_from, and_parts, eqb-true}
use Rattle.std.proofs.lemmas.List.{reverse-append, reverse-reverse}
use Rattle.std.proofs.lemmas.List.Folds.{list_all-append}
use Rattle.spectro_io.specs.Blanks.{is_blank, skip_blanks, trimmed, AreBlanks}

-- ---- the front
-- bytes are blanks, and the rest from the first other byte on
abbrev HasFront : List ℕ → Type 0
HasFront bytes = (front : List ℕ) × (bytes ≡ front ++ skip_blanks bytes) × AreBlanks front

pub blanks_before : (bytes : List ℕ) → HasFront bytes
blanks_before [] = ([], refl, refl)
blanks_before (byte ∷ bytes) = by (is_blank byte) refl (blanks_before bytes)
  where
    by : (b : Bool) → is_blank byte ≡ b → HasFront bytes → HasFront (byte ∷ bytes)
    by true e later = (byte ∷ later.0, rw e (ap (λ l. byte ∷ l) later.1), rw e later.2)
    by false e later = ([], rw e refl, refl)

pub skip_blanks-blanks : (front rest : List ℕ) → AreBlanks front → skip_blanks (front ++ rest) ≡ skip_blanks rest
skip_blanks-blanks [] rest all = refl
skip_blanks-blanks (byte ∷ front) rest all =
    let parts = and_parts (is_blank byte) (list_all is_blank front) all in
    rw parts.0 (skip_blanks-blanks front rest parts.1)

pub skip_blanks-other : (byte : ℕ) (rest : List ℕ) → is_blank byte ≡ false → skip_blanks (byte ∷ rest) ≡ byte ∷ rest
skip_blanks-other byte rest other = rw other refl

-- blanks are skipped, so that no byte is added
pub length-skip_blanks : (bytes : List ℕ) → length (skip_blanks bytes) ≤ length bytes
length-skip_blanks [] = omega arith
length-skip_blanks (byte ∷ bytes) = by (is_blank byte) refl (length-skip_blanks bytes)
  where
    by : (blank : Bool) → is_blank byte ≡ blank → length (skip_blanks bytes) ≤ length bytes → length (skip_blanks (byte ∷ bytes)) ≤ length (byte ∷ bytes)
    by true blank later = rw blank (omega (arith, later))
    by false blank later = rw blank (omega arith)

-- ---- blanks alone
pub skip_blanks-none : (bytes : List ℕ) → AreBlanks bytes → skip_blanks bytes ≡ []
skip_blanks-none [] all = refl
skip_blanks-none (byte ∷ bytes) all =
    let parts = and_parts (is_blank byte) (list_all is_blank bytes) all in
    rw parts.0 (skip_blanks-none bytes parts.1)

pub AreBlanks-skipped : (bytes : List ℕ) → skip_blanks bytes ≡ [] → AreBlanks bytes
AreBlanks-skipped bytes none =
    let before = blanks_before bytes in
    let same : bytes ≡ before.0 = before.1 ∙ ap (λ l. before.0 ++ l) none ∙ append-nil before.0 in
    subst AreBlanks (sym same) before.2

-- nothing is left where the length is tested so
pub none_left : (rest : List ℕ) → (length rest == 0) ≡ true → rest ≡ []
none_left [] none = refl
none_left (byte ∷ rest) none = absurd (omega (arith, eqb-true (length (byte ∷ rest)) 0 none))

-- the test of what is left tells whether there are only blanks
pub blank_test : (bytes rest : List ℕ) (test : Bool) → rest ≡ skip_blanks bytes → test ≡ (length rest == 0) → IsTrue test ↔ AreBlanks bytes
blank_test bytes rest test left is =
    (λ holds. AreBlanks-skipped bytes (sym left ∙ none_left rest (sym is ∙ holds)), λ all. is ∙ ap (λ l. length l == 0) (left ∙ skip_blanks-none bytes all))

-- ---- both ends
pub list_all-reverse : (p : ℕ → Bool) (bytes : List ℕ) → list_all p bytes ≡ true → list_all p (reverse bytes) ≡ true
list_all-reverse p [] all = refl
list_all-reverse p (byte ∷ bytes) all =
    let parts = and_parts (p byte) (list_all p bytes) all in
    ap (list_all p) (reverse-append (byte ∷ []) bytes) ∙ list_all-append p (reverse bytes) (byte ∷ [])
    ∙ and_from _ _ (list_all-reverse p bytes parts.1) (and_from _ _ parts.0 refl)

-- bytes are what is left once they are trimmed, between blanks
pub record IsTrimmed (bytes : List ℕ) : Type 0 where
  pub front : List ℕ
  pub back : List ℕ
  pub whole : bytes ≡ front ++ (trimmed bytes ++ back)
  pub before : AreBlanks front
  pub behind : AreBlanks back

pub trims : (bytes : List ℕ) → IsTrimmed bytes
trims bytes =
    let first = blanks_before bytes in
    let last = blanks_before (reverse (skip_blanks bytes)) in
    let rest : skip_blanks bytes ≡ trimmed bytes ++ reverse last.0 =
    sym (reverse-reverse (skip_blanks bytes)) ∙ ap reverse last.1 ∙ reverse-append last.0 (skip_blanks (reverse (skip_blanks bytes))) in
    record {
      front = first.0;
      back = reverse last.0;
      whole = first.1
          ∙ ap (λ l. first.0 ++ l) rest;
      before = first.2;
      behind = list_all-reverse is_blank last.0 last.2;
    }

-- between blanks, bytes that begin and end with one that is no blank are what trimming leaves
pub trimmed_core : (front core back : List ℕ) (first last : ℕ) (others fore : List ℕ) → AreBlanks front → AreBlanks back → core ≡ first ∷ others
    → core ≡ fore ++ last ∷ []
    → is_blank first ≡ false → is_blank last ≡ false → trimmed (front ++ (core ++ back)) ≡ core
trimmed_core front core back first last others fore before behind begins ends opens closes =
    let skipped : skip_blanks (front ++ (core ++ back)) ≡ core ++ back = skip_blanks-blanks front (core ++ back) before
    ∙ ap (λ l. skip_blanks (l ++ back)) begins ∙ skip_blanks-other first (others ++ back) opens ∙ ap (λ l. l ++ back) (sym begins) in
    let turned : reverse core ≡ last ∷ reverse fore = ap reverse ends ∙ reverse-append fore (last ∷ []) in
    let left : skip_blanks (reverse (core ++ back)) ≡ reverse core = ap skip_blanks (reverse-append core back)
    ∙ skip_blanks-blanks (reverse back) (reverse core) (list_all-reverse is_blank back behind) ∙ ap skip_blanks turned
    ∙ skip_blanks-other last (reverse fore) closes ∙ sym turned in
    ap (λ l. reverse (skip_blanks (reverse l))) skipped ∙ ap reverse left ∙ reverse-reverse core

-- what stands between blanks, from a quote to a quote, is what is left
pub trimmed-quoted : (front inside back : List ℕ) → AreBlanks front → AreBlanks back → trimmed (front ++ (34 ∷ inside ++ 34 ∷ back)) ≡ 34 ∷ inside ++ 34 ∷ []
trimmed-quoted front inside back before behind =
    ap (λ l. trimmed (front ++ l)) (sym (append_assoc (34 ∷ inside) (34 ∷ []) back))
    ∙ trimmed_core front (34 ∷ inside ++ 34 ∷ []) back 34 34 (inside ++ 34 ∷ []) (34 ∷ inside) before behind refl refl refl refl
