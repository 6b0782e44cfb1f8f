-- The lexicographic order of rows of numbers is strict.
use Rattle.std.proofs.Common.{ℕ, ◌≡◌, inl, inr, List, [], ◌∷◌, arith}
use Rattle.spectro_spec.specs.Price.{IsFirstSmaller}

pub IsFirstSmaller-irrefl : (ns : List ℕ) → ¬ IsFirstSmaller ns ns
IsFirstSmaller-irrefl [] h = h
IsFirstSmaller-irrefl (n ∷ ns) (inl h) = omega arith
IsFirstSmaller-irrefl (n ∷ ns) (inr h) = IsFirstSmaller-irrefl ns h.1

pub IsFirstSmaller-trans : (ls ms ns : List ℕ) → IsFirstSmaller ls ms → IsFirstSmaller ms ns → IsFirstSmaller ls ns
IsFirstSmaller-trans [] ms ns h k = absurd h
IsFirstSmaller-trans (l ∷ ls) [] ns h k = absurd h
IsFirstSmaller-trans (l ∷ ls) (m ∷ ms) [] h k = absurd k
IsFirstSmaller-trans (l ∷ ls) (m ∷ ms) (n ∷ ns) (inl h) (inl k) = inl (omega arith)
IsFirstSmaller-trans (l ∷ ls) (m ∷ ms) (n ∷ ns) (inl h) (inr k) = let same : m ≡ n = k.0 in inl (omega arith)
IsFirstSmaller-trans (l ∷ ls) (m ∷ ms) (n ∷ ns) (inr h) (inl k) = let same : l ≡ m = h.0 in inl (omega arith)
IsFirstSmaller-trans (l ∷ ls) (m ∷ ms) (n ∷ ns) (inr h) (inr k) =
    let same : l ≡ m = h.0 in
    let equal : m ≡ n = k.0 in
    inr (omega arith, IsFirstSmaller-trans ls ms ns h.1 k.1)
