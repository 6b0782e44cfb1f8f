-- As much of a text as is read, and the whole of it.
use Rattle.std.proofs.Common.{◌≡◌, ◌∙◌, ℕ, ◌<◌, ◌≤◌, List, take, length, subst, arith, inl, inr}
use Rattle.std.proofs.lemmas.Bool.{cases_lt}
use Rattle.std.proofs.lemmas.List.{take_all}
use Rattle.spectro_io.specs.Limits.{read_limit}

-- of a text that is shorter than the limit the whole is read
front_text : (limit : ℕ) (text bytes : List ℕ) → bytes ≡ take limit text → length text < limit → bytes ≡ text
front_text limit text bytes front less = front ∙ take_all limit text (omega arith)

-- what holds of what is read holds of the whole, where it does so of a text of which no more is read
pub whole_from_front : (P : List ℕ → Type 0) (text bytes : List ℕ) → bytes ≡ take read_limit text
    → (read_limit ≤ length text → P (take read_limit text) → P text) → P bytes → P text
whole_from_front P text bytes front long is = elim (cases_lt (length text) read_limit) [
  | inl less ↦ subst P (front_text read_limit text bytes front less) is
  | inr more ↦ long more (subst P front is)
]
