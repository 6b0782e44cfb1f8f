-- Rows that meet others, with the sign of each.
use Rattle.std.proofs.Common.{◌≡◌, ◌∙◌, ℕ, ◌+◌, ◌-◌, ◌*◌, ◌/◌, ◌%◌, ◌^◌, ◌<◌, ◌≤◌, ◌↔◌, suc, zero, min, Bool, true, false, ◌==◌, List, [], ◌∷◌, length, ◌++◌, take, drop, length-append, get_or, slice_set, bit_and, w64, Fits, IsTrue, refl, sym, ap, subst, arith, below_more}
use Rattle.std.specs.Prelude.{All}
use Rattle.std.specs.Int.{bit_at, bit_not}
use Rattle.std.proofs.lemmas.Grind.{get_or-set_at}
use Rattle.std.proofs.lemmas.List.{get_or-set_other, get_or_append_left, take_more}
use Rattle.std.proofs.lemmas.List.Elements.{All-more, All-contains, Contains-push}
use Rattle.std.proofs.lemmas.Nat.Bits.{bit_at-lt, bit_at_and, bit_at_not}
use Rattle.spectro_hml.specs.declared.node.Clause.{Clause}
use Rattle.spectro_eval.specs.Rows.{bit_of}

-- the word, or where the sign is negative its complement
abbrev pub signed : Bool → ℕ → ℕ
signed true word = word
signed false word = bit_not w64 word

both : (x y : ℕ) → x < 2 → y < 2 → IsTrue (min x y == 1) ↔ IsTrue (x == 1) × ((y == 1) ≡ true)
both zero zero _ _ = (λ e. absurd (cc), λ e. e.0)
both zero (suc zero) _ _ = (λ e. absurd (cc), λ e. e.0)
both (suc zero) zero _ _ = (λ e. absurd (cc), λ e. e.1)
both (suc zero) (suc zero) _ _ = (λ e. (refl, refl), λ e. refl)
both x (suc (suc y)) _ few = absurd (omega arith)
both (suc (suc x)) y few _ = absurd (omega arith)

but_not : (x y : ℕ) → x < 2 → y < 2 → IsTrue (min x (1 - y) == 1) ↔ IsTrue (x == 1) × ((y == 1) ≡ false)
but_not zero zero _ _ = (λ e. absurd (cc), λ e. e.0)
but_not zero (suc zero) _ _ = (λ e. absurd (cc), λ e. e.0)
but_not (suc zero) zero _ _ = (λ e. (refl, refl), λ e. refl)
but_not (suc zero) (suc zero) _ _ = (λ e. absurd (cc), λ e. sym e.1)
but_not x (suc (suc y)) _ few = absurd (omega arith)
but_not (suc (suc x)) y few _ = absurd (omega arith)

-- the bit of a word that meets another
signed_bit : (positive : Bool) (a b i : ℕ) → b < 2 ^ 64 → i < 64
    → IsTrue (bit_at (bit_and a (signed positive b)) i == 1) ↔ IsTrue (bit_at a i == 1) × ((bit_at b i == 1) ≡ positive)
signed_bit true a b i fits within = rw (bit_at_and a b i) (both (bit_at a i) (bit_at b i) (bit_at-lt a i) (bit_at-lt b i))
signed_bit false a b i fits within =
    let meets : bit_at (bit_and a (bit_not w64 b)) i ≡ min (bit_at a i) (1 - bit_at b i) = bit_at_and a (bit_not w64 b) i
    ∙ ap (min (bit_at a i)) (bit_at_not w64 b i fits within) in
    rw meets (but_not (bit_at a i) (bit_at b i) (bit_at-lt a i) (bit_at-lt b i))

-- the first words of the row have met those of the part, and the others are as they were
pub record HasMet (positive : Bool) (part before : List ℕ) (k : ℕ) (row : List ℕ) : Type 0 where
  pub done : (j : ℕ) → j < k → get_or row j 0 ≡ bit_and (get_or before j 0) (signed positive (get_or part j 0))
  pub left : (j : ℕ) → k ≤ j → get_or row j 0 ≡ get_or before j 0

pub has_met_none : (positive : Bool) (part before : List ℕ) → HasMet positive part before 0 before
has_met_none positive part before = record { done = λ j below. absurd (omega arith); left = λ j past. refl }

pub has_met_more : (positive : Bool) (part before : List ℕ) (k : ℕ) (row : List ℕ) (word : ℕ) → HasMet positive part before k row → k < length row
    → word ≡ bit_and (get_or row k 0) (signed positive (get_or part k 0)) → HasMet positive part before (k + 1) (slice_set row k word)
has_met_more positive part before k row word met within is = record {
  done = below_more _ _
      (λ j below. get_or-set_other row k j word 0 (λ e. absurd (omega arith)) ∙ met.done j below)
      (get_or-set_at row k k word 0 refl within ∙ is ∙ ap (λ old. bit_and old (signed positive (get_or part k 0))) (met.left k (omega arith)));
  left = λ j past. get_or-set_other row k j word 0 (λ e. absurd (omega arith)) ∙ met.left j (omega arith);
}

-- a row that has met a part
pub meets : (positive : Bool) (part before row : List ℕ) (k : ℕ) → HasMet positive part before k row → length before ≤ k
    → ((j : ℕ) → Fits w64 (get_or part j 0)) → (state : ℕ) → state / 64 < length before
    → IsTrue (bit_of row state) ↔ IsTrue (bit_of before state) × (bit_of part state ≡ positive)
meets positive part before row k met whole fits state within =
    rw (met.done (state / 64) (omega arith))
    (signed_bit positive (get_or before (state / 64) 0) (get_or part (state / 64) 0) (state % 64) (fits (state / 64)).fits (omega arith))

-- ---- clause by clause
-- the bit of the clause's row is its sign
abbrev pub HasSign : List ℕ → ℕ → ℕ → Clause → Type 0
HasSign rows words state clause = bit_of (drop (clause.node * words) rows) state ≡ clause.positive

All-front : (P : Clause → Type 0) (clauses more : List Clause) → All P (clauses ++ more) → All P clauses
All-front P clauses more each = λ k d below. subst P (get_or_append_left clauses more d k below) (each k d (omega (arith, length-append clauses more)))

all_more : (P : Clause → Type 0) (clauses : List Clause) (k : ℕ) (d : Clause) → k < length clauses
    → All P (take (k + 1) clauses) ↔ All P (take k clauses) × P (get_or clauses k d)
all_more P clauses k d within = (λ more. by (subst (All P) cut more), λ both. All-more P clauses k d within both.0 both.1)
  where
    last : Clause
    last = get_or clauses k d

    cut : take (k + 1) clauses ≡ take k clauses ++ last ∷ []
    cut = take_more clauses k d within

    by : All P (take k clauses ++ last ∷ []) → All P (take k clauses) × P last
    by more = (All-front P (take k clauses) (last ∷ []) more, All-contains P (take k clauses ++ last ∷ []) last more (Contains-push (take k clauses) last))

-- a row that has met the part of one clause more
pub meets_more : (rows part : List ℕ) (words width state : ℕ) (clauses : List Clause) (k : ℕ) (d : Clause) (was now : Bool) → k < length clauses
    → width ≡ words → part ≡ drop ((get_or clauses k d).node * width) rows
    → IsTrue was ↔ All (HasSign rows words state) (take k clauses) → IsTrue now ↔ IsTrue was × (bit_of part state ≡ (get_or clauses k d).positive)
    → IsTrue now ↔ All (HasSign rows words state) (take (k + 1) clauses)
meets_more rows part words width state clauses k d was now within same is old step =
    let more = all_more (HasSign rows words state) clauses k d within in
    let whole = is ∙ ap (λ width. drop ((get_or clauses k d).node * width) rows) same in
    let read = ap (λ part. bit_of part state) whole in
    (λ set. more.1 (old.0 (step.0 set).0, sym read ∙ (step.0 set).1), λ each. step.1 (old.1 (more.0 each).0, read ∙ (more.0 each).1))
