-- A text with a byte too many is faulty no later than at that byte, whatever follows.
use Rattle.std.proofs.Common.{◌≡◌, ◌∙◌, ℕ, suc, ◌+◌, ◌<◌, ◌≤◌, true, false, List, [], ◌∷◌, ◌++◌, length, take, drop, refl, sym, ap, subst, inl, inr, arith, take-append-drop, length-take-le, length-append}
use Rattle.std.specs.Prelude.{◌==◌, ◌⊎◌}
use Rattle.std.proofs.lemmas.Bool.{cases_Bool, cases_lt}
use Rattle.spectro_io.specs.Limits.{read_limit}
use Rattle.spectro_io.specs.Lines.{with_byte, lines_of}
use Rattle.spectro_lines.specs.Form.{Form}
use Rattle.spectro_lines.specs.Texts.{Before, nothing_before, behind, IsRead, IsFaulty, too_long, Follow, HasFault, IsText, IsFirstFault}
use Rattle.spectro_lines.proofs.Faults.{too_long-only, HasFault-cons, HasFault-here, HasFault-later}
use Rattle.spectro_io.specs.declared.read.TheConstants.{TEXT_LIMIT}

-- how many bytes the lines have, line ends counted
abbrev total : List (List ℕ) → ℕ
total [] = 0
total (line ∷ lines) = length line + total lines

total-with_byte : (byte : ℕ) (lines : List (List ℕ)) → total (with_byte byte lines) ≡ suc (total lines)
total-with_byte byte [] = refl
total-with_byte byte (line ∷ lines) = omega arith

total-lines_of : (text : List ℕ) → total (lines_of text) ≡ length text
total-lines_of [] = refl
total-lines_of (byte ∷ text) = by (cases_Bool (byte == 10)) (total-lines_of text)
  where
    by : (((byte == 10) ≡ true) ⊎ ((byte == 10) ≡ false)) → total (lines_of text) ≡ length text → total (lines_of (byte ∷ text)) ≡ length (byte ∷ text)
    by (inl ends) later = rw ends (omega (arith, later))
    by (inr other) later = rw other (total-with_byte byte (lines_of text) ∙ ap suc later)

-- the lines stand at the front of the others, and of the last there may be a part alone
abbrev Cut : List (List ℕ) → List (List ℕ) → Type 0
Cut [] whole = Unit {0}
Cut (line ∷ lines) [] = ⊥
Cut (line ∷ lines) (first ∷ others) = ((first ≡ line) × Cut lines others) ⊎ ((more : List ℕ) × (lines ≡ []) × (first ≡ line ++ more))

cut-with_byte : (byte : ℕ) (lines whole : List (List ℕ)) → Cut lines whole → Cut (with_byte byte lines) (with_byte byte whole)
cut-with_byte byte [] [] cut = inl (refl, tt)
cut-with_byte byte [] (first ∷ others) cut = inr (first, refl, refl)
cut-with_byte byte (line ∷ lines) [] cut = absurd cut
cut-with_byte byte (line ∷ lines) (first ∷ others) (inl same) = inl (ap (λ line. byte ∷ line) same.0, same.1)
cut-with_byte byte (line ∷ lines) (first ∷ others) (inr part) = inr (part.0, part.1, ap (λ line. byte ∷ line) part.2)

cut-lines_of : (front back : List ℕ) → Cut (lines_of front) (lines_of (front ++ back))
cut-lines_of [] back = tt
cut-lines_of (byte ∷ front) back = by (cases_Bool (byte == 10)) (cut-lines_of front back)
  where
    by : (((byte == 10) ≡ true) ⊎ ((byte == 10) ≡ false)) → Cut (lines_of front) (lines_of (front ++ back))
        → Cut (lines_of (byte ∷ front)) (lines_of (byte ∷ front ++ back))
    by (inl ends) later = rw ends (inl (refl, later))
    by (inr other) later = rw other (cut-with_byte byte (lines_of front) (lines_of (front ++ back)) later)

-- as many bytes as are read of any text are more than one may have
pub read_limit-large : TEXT_LIMIT < read_limit
unfolding read_limit
read_limit-large = omega arith

module _ {State Value Kind : Type 0} (form : Form State Value Kind) where
  -- a line that is read ends within the text
  few_behind : (before : Before State) (line : List ℕ) (next : State) → IsRead form before line next → before.bytes + length line ≤ form.limit
  few_behind before line next read = elim (cases_lt form.limit (before.bytes + length line)) [ inl over ↦ absurd (read.fit (inr over)) | inr few ↦ few ]

  -- a fault of so many bytes stays, whatever follows them
  fault_stays : (lines whole : List (List ℕ)) (before : Before State) (number : ℕ) (kind : Kind) → Cut lines whole → before.bytes ≤ form.limit
      → form.limit < before.bytes + total lines → HasFault form before lines number kind → HasFault form before whole number kind
  fault_stays [] whole before number kind cut few many fault = absurd (omega (arith, few, many))
  fault_stays (line ∷ lines) [] before number kind cut few many fault = absurd cut
  fault_stays (line ∷ lines) (first ∷ others) before number kind (inl same) few many fault =
      subst (λ first. HasFault form before (first ∷ others) number kind) (sym same.0) (elim (HasFault-cons form before line lines number kind fault) [
        | inl here ↦ subst (λ number. HasFault form before (line ∷ others) number kind) (sym here.1) (HasFault-here form before line others kind here.0)
        | inr later ↦
            let few_later = few_behind before line later.0 later.1 in
            let stays = fault_stays lines others (behind before line later.0) number kind same.1 few_later (omega (arith, many)) later.2 in
            HasFault-later form before line others later.0 number kind later.1 stays
      ])
  fault_stays (line ∷ lines) (first ∷ others) before number kind (inr part) few many fault =
      let over : form.limit < before.bytes + length line = omega (arith, many, ap total part.1) in
      let longer : form.limit < before.bytes + length first = omega (arith, over, ap length part.2, length-append line part.0) in
      elim (HasFault-cons form before line lines number kind fault) [
        | inl here ↦
            let faulty : IsFaulty form before first kind = too_long (inr longer) (too_long-only form before line kind (inr over) here.0) in
            subst (λ number. HasFault form before (first ∷ others) number kind) (sym here.1) (HasFault-here form before first others kind faulty)
        | inr later ↦ absurd (later.1.fit (inr over))
      ]

  -- the fault of the front of a text, of more bytes than a text may have, is that of the whole text
  pub fault_of_front : (count : ℕ) (text : List ℕ) (number : ℕ) (kind : Kind) → form.limit < count → IsFirstFault form (take count text) number kind
      → count ≤ length text → IsFirstFault form text number kind
  fault_of_front count text number kind large fault long =
      let front = take count text in
      let many : form.limit < total (lines_of front) = omega (arith, large, total-lines_of front, length-take-le count text long) in
      let cut : Cut (lines_of front) (lines_of text) =
      subst (λ whole. Cut (lines_of front) (lines_of whole)) (take-append-drop count text) (cut-lines_of front (drop count text)) in
      fault_stays (lines_of front) (lines_of text) (nothing_before form) number kind cut (omega arith) (omega (arith, many)) fault

  -- lines without a fault have no more bytes than a text may have
  few_bytes : (lines : List (List ℕ)) (before after : Before State) → before.bytes ≤ form.limit → Follow form before lines after
      → before.bytes + total lines ≤ form.limit
  few_bytes [] before after few follow = omega (arith, few)
  few_bytes (line ∷ lines) before after few follow =
      omega (arith, few_bytes lines (behind before line follow.0) after (few_behind before line follow.0 follow.1) follow.2)

  -- a text with a value is no longer than a text may be
  pub length-text : (text : List ℕ) (value : Value) → IsText form text value → length text ≤ form.limit
  length-text text value is = omega (arith, total-lines_of text, few_bytes (lines_of text) (nothing_before form) is.after (omega arith) is.follow)

  -- the front of a text, of more bytes than a text may have, has no value
  pub front_no_text : (count : ℕ) (text : List ℕ) (value : Value) → form.limit < count → IsText form (take count text) value → count ≤ length text → ⊥
  front_no_text count text value large is long = omega (arith, large, length-text (take count text) value is, length-take-le count text long)
