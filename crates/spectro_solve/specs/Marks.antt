-- Marks of pairs: one flag for each, and the numbers of those that are marked.
use Rattle.std.specs.Prelude.{ℕ, ◌≡◌, ◌↔◌, Bool, true, false, List, length, slice_index_or, count_by, Contains}

-- the flag of the pair of the number is set
abbrev pub IsMarked : List Bool → ℕ → Type 0
IsMarked flags k = slice_index_or flags k false ≡ true

-- how many flags are set
abbrev pub count_marked : List Bool → ℕ
count_marked flags = count_by (λ flag. flag) flags

-- the numbers are just those of the pairs that are marked, each once
pub record AreMarks (flags : List Bool) (numbers : List ℕ) : Type 0 where
  pub exact : (k : ℕ) → Contains numbers k ↔ IsMarked flags k
  pub once : length numbers ≡ count_marked flags
