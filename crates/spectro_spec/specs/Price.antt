-- Prices: seven numbers, and their two orders.
use Rattle.std.specs.Prelude.{ℕ, ◌≡◌, ◌<◌, ◌≤◌, ◌⊎◌, List, [], ◌∷◌}

pub record Price : Type 0 where
  -- depth of observations
  pub observations : ℕ
  -- nesting of conjunctions
  pub conjunctions : ℕ
  -- greatest depth of the deepest positive clause
  pub deepest_positive : ℕ
  -- greatest depth of the other positive clauses
  pub other_positive : ℕ
  -- greatest depth of negative clauses
  pub deepest_negative : ℕ
  -- nesting of negations
  pub negations : ℕ
  -- weighted depth of observations
  pub weighted_depth : ℕ

-- each part of e is at most that part of f
pub record IsAtMost (e f : Price) : Type 0 where
  pub observations : e.observations ≤ f.observations
  pub conjunctions : e.conjunctions ≤ f.conjunctions
  pub deepest_positive : e.deepest_positive ≤ f.deepest_positive
  pub other_positive : e.other_positive ≤ f.other_positive
  pub deepest_negative : e.deepest_negative ≤ f.deepest_negative
  pub negations : e.negations ≤ f.negations
  pub weighted_depth : e.weighted_depth ≤ f.weighted_depth

-- the seven parts in order
abbrev pub parts : Price → List ℕ
parts e = e.observations ∷ e.conjunctions ∷ e.deepest_positive ∷ e.other_positive ∷ e.deepest_negative ∷ e.negations ∷ e.weighted_depth ∷ []

-- of two rows of as many numbers, the first has the smaller one where they first differ
abbrev pub IsFirstSmaller : List ℕ → List ℕ → Type 0
IsFirstSmaller [] ms = ⊥
IsFirstSmaller (n ∷ ns) [] = ⊥
IsFirstSmaller (n ∷ ns) (m ∷ ms) = (n < m) ⊎ ((n ≡ m) × IsFirstSmaller ns ms)

-- e comes before f in the lexicographic order of prices
abbrev pub ComesBefore : Price → Price → Type 0
ComesBefore e f = IsFirstSmaller (parts e) (parts f)
