-- The ways to divide a set into a left and a right part.
use Rattle.std.specs.Prelude.{ℕ, List, [], ◌∷◌}
use Rattle.std.specs.List.{flat_map}

-- the members of the first list are those of the second and of the third, which keep its order
pub data IsDivided : List ℕ → List ℕ → List ℕ → Type 0 where
  nothing : IsDivided [] [] []
  to_left : {q : ℕ} {qs left right : List ℕ} → IsDivided qs left right → IsDivided (q ∷ qs) (q ∷ left) right
  to_right : {q : ℕ} {qs left right : List ℕ} → IsDivided qs left right → IsDivided (q ∷ qs) left (q ∷ right)

pub record Division : Type 0 where
  pub left : List ℕ
  pub right : List ℕ

-- q on the right, and q on the left
abbrev pub both_ways : ℕ → Division → List Division
both_ways q d = record d { right = q ∷ d.right } ∷ record d { left = q ∷ d.left } ∷ []

-- all divisions, in the order of the left part as a mask: the first member of the set changes first
abbrev pub divisions : List ℕ → List Division
divisions [] = record { left = []; right = [] } ∷ []
divisions (q ∷ qs) = flat_map (both_ways q) (divisions qs)
