-- The first place at which something holds, found in blocks.
use Rattle.std.proofs.Common.{ℕ, ◌≡◌, ◌+◌, ◌-◌, ◌<◌, ◌≤◌, inl, inr, sym, subst, arith}
use Rattle.std.proofs.lemmas.Bool.{cases_lt}
use Rattle.spectro_lanes.specs.Columns.{IsFirst}

-- what holds at none of the first k places and at none of the next n holds at none of all these
pub none_more : (P : ℕ → Type 0) (k n : ℕ) → ((i : ℕ) → i < k → ¬ P i) → ((i : ℕ) → i < n → ¬ P (k + i)) → (i : ℕ) → i < k + n → ¬ P i
none_more P k n was next i low here = elim (cases_lt i k) [
  | inl below ↦ was i below here
  | inr above ↦ let back : k + (i - k) ≡ i = omega arith in next (i - k) (omega arith) (subst P (sym back) here)
]

-- the first of the next n places is the first of all, where it holds at none before
pub first_more : (P : ℕ → Type 0) (k n all r : ℕ) → k + n ≤ all → ((i : ℕ) → i < k → ¬ P i) → IsFirst (λ i. P (k + i)) n r → r < n → IsFirst P all (k + r)
first_more P k n all r room was first found = record {
  bound = omega arith;
  before = none_more P k r was first.before;
  at = λ _. first.at found;
}
