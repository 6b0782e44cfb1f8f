-- The bytes of a line that has not ended, and the lines of a text that goes on from them.
use Rattle.std.proofs.Common.{◌≡◌, ℕ, suc, ◌+◌, ◌-◌, ◌<◌, ◌≤◌, false, List, [], ◌∷◌, ◌++◌, length, take, Contains, refl, ap, inl, inr, arith, length-take}
use Rattle.std.specs.Prelude.{◌==◌, not, slice_index}
use Rattle.std.specs.List.{before_first}
use Rattle.std.proofs.lemmas.Bool.{cases_Bool, cond_both, eqb-true}
use Rattle.std.proofs.lemmas.List.Sums.{take_while-cons}
use Rattle.spectro_io.specs.Lines.{without_cr, first_line, with_byte, lines_of}

-- no byte of the text is an LF
abbrev pub IsUnbroken : List ℕ → Type 0
IsUnbroken [] = Unit {0}
IsUnbroken (byte ∷ text) = ((byte == 10) ≡ false) × IsUnbroken text

-- the same in the words of contracts
pub unbroken : (text : List ℕ) → ¬ Contains text 10 → IsUnbroken text
unbroken [] none = tt
unbroken (byte ∷ text) none = (
  elim (cases_Bool (byte == 10)) [
    | inl ends ↦ absurd (none (0, omega arith, eqb-true byte 10 ends))
    | inr other ↦ other
  ],
  unbroken text (λ within. none (suc within.0, let below = within.1 in omega arith, within.2)),
)

pub unbroken_append : (front back : List ℕ) → IsUnbroken front → IsUnbroken back → IsUnbroken (front ++ back)
unbroken_append [] back first second = second
unbroken_append (byte ∷ front) back first second = (first.0, unbroken_append front back first.1 second)

-- the first line begins with this
abbrev pub BeginsWith : List ℕ → List (List ℕ) → Type 0
BeginsWith front lines = (more : List ℕ) × (others : List (List ℕ)) × (lines ≡ (front ++ more) ∷ others)

with_byte_begins : (byte : ℕ) (front : List ℕ) (lines : List (List ℕ)) → BeginsWith front lines → BeginsWith (byte ∷ front) (with_byte byte lines)
with_byte_begins byte front lines begins = (begins.0, begins.1, ap (with_byte byte) begins.2)

with_byte_first : (byte : ℕ) (lines : List (List ℕ)) → BeginsWith (byte ∷ []) (with_byte byte lines)
with_byte_first byte [] = ([], [], refl)
with_byte_first byte (line ∷ lines) = (line, lines, refl)

-- what is held begins the first line
pub lines_of-begun : (held rest : List ℕ) → IsUnbroken held → 0 < length held → BeginsWith held (lines_of (held ++ rest))
lines_of-begun [] rest unbroken some = absurd (omega arith)
lines_of-begun (byte ∷ []) rest unbroken some = rw unbroken.0 (with_byte_first byte (lines_of rest))
lines_of-begun (byte ∷ next ∷ held) rest unbroken some =
    rw unbroken.0 (with_byte_begins byte (next ∷ held) (lines_of ((next ∷ held) ++ rest)) (lines_of-begun (next ∷ held) rest unbroken.1 (omega arith)))

pub lines_of-ended : (held rest : List ℕ) → IsUnbroken held → lines_of (held ++ 10 ∷ rest) ≡ (held ++ 10 ∷ []) ∷ lines_of rest
lines_of-ended [] rest unbroken = refl
lines_of-ended (byte ∷ held) rest unbroken = rw unbroken.0 (ap (with_byte byte) (lines_of-ended held rest unbroken.1))

pub lines_of-held : (held : List ℕ) → IsUnbroken held → 0 < length held → lines_of held ≡ held ∷ []
lines_of-held [] unbroken some = absurd (omega arith)
lines_of-held (byte ∷ []) unbroken some = rw unbroken.0 refl
lines_of-held (byte ∷ next ∷ held) unbroken some = rw unbroken.0 (ap (with_byte byte) (lines_of-held (next ∷ held) unbroken.1 (omega arith)))

-- the first line of what is held
before_first-ended : (held rest : List ℕ) → IsUnbroken held → before_first (λ byte. byte == 10) (held ++ 10 ∷ rest) ≡ held
before_first-ended [] rest unbroken = refl
before_first-ended (byte ∷ held) rest unbroken =
    rw (take_while-cons (λ byte. not (byte == 10)) byte (held ++ 10 ∷ rest), unbroken.0) (ap (λ text. byte ∷ text) (before_first-ended held rest unbroken.1))

before_first-held : (held : List ℕ) → IsUnbroken held → before_first (λ byte. byte == 10) held ≡ held
before_first-held [] unbroken = refl
before_first-held (byte ∷ held) unbroken =
    rw (take_while-cons (λ byte. not (byte == 10)) byte held, unbroken.0) (ap (λ text. byte ∷ text) (before_first-held held unbroken.1))

length-before_first : (held more : List ℕ) → IsUnbroken held → length held ≤ length (before_first (λ byte. byte == 10) (held ++ more))
length-before_first [] more unbroken = omega arith
length-before_first (byte ∷ held) more unbroken =
    rw (take_while-cons (λ byte. not (byte == 10)) byte (held ++ more), unbroken.0) (let others = length-before_first held more unbroken.1 in omega arith)

pub first_line-ended : (held : List ℕ) → IsUnbroken held → first_line (held ++ 10 ∷ []) ≡ without_cr held
first_line-ended held unbroken = ap without_cr (before_first-ended held [] unbroken)

pub first_line-held : (held : List ℕ) → IsUnbroken held → first_line held ≡ without_cr held
first_line-held held unbroken = ap without_cr (before_first-held held unbroken)

length-without_cr : (line : List ℕ) → length line ≤ length (without_cr line) + 1
length-without_cr line =
    cond_both (slice_index line (length line - 1) == 13) (take (length line - 1) line) line (λ result. length line ≤ length result + 1)
    (λ e. simp length-take (omega arith)) (λ e. omega arith)

-- only a CR may be taken from what is held
pub length-first_line : (held more : List ℕ) → IsUnbroken held → length held ≤ length (first_line (held ++ more)) + 1
length-first_line held more unbroken =
    omega (arith, length-before_first held more unbroken, length-without_cr (before_first (λ byte. byte == 10) (held ++ more)))
