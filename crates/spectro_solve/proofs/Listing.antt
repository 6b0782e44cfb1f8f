-- The rows of an arena's pairs as a table of pairs.
use Rattle.std.proofs.Common.{ℕ, zero, suc, [], ◌∷◌, sym, ◌≡◌, ◌<◌, List, get_or, length, subst, arith, ◌+◌, ◌⊎◌, inl, inr, set, ◌++◌, refl}
use Rattle.std.proofs.lemmas.Option.{slice_get-get_or}
use Rattle.std.proofs.lemmas.List.{get_or-set_same, get_or-set_other}
use Rattle.spectro_spec.specs.System.{System}
use Rattle.spectro_spec.specs.Weighing.{Weighing}
use Rattle.spectro_spec.specs.Price.{Price}
use Rattle.spectro_rows.specs.Rows.{row_at}
use Rattle.spectro_game.specs.Pairs.{Pair}
use Rattle.spectro_game.specs.Reached.{StandsAt}
use Rattle.spectro_game.specs.Rows.{listed_at}
use Rattle.spectro_theory.proofs.Places.{stands-one}
use Rattle.spectro_theory.proofs.RowsOfGenerations.{listed_at-first}
use Rattle.spectro_pairs.specs.Interned.{IsPairAt}
use Rattle.spectro_pairs.specs.Explored.{Explored, IsExploredFrom}

-- the row of a pair is that of its number
pub listed-at : (system : System) (weighing : Weighing) (starts : List (ℕ × ℕ)) (explored : Explored) → IsExploredFrom system weighing starts explored
    → (rows : List (List Price)) (j : ℕ) (y : Pair) (es : List Price) → StandsAt explored.pairs j y → j < length rows
    → listed_at explored.pairs rows y.state y.set ≡ get_or rows j es
listed-at system weighing starts explored source rows j y es here below =
    listed_at-first explored.pairs rows j y.state y.set (get_or rows j es)
    (λ i before there. let same : i ≡ j = source.reached.distinct i j y there here in omega arith) here (slice_get-get_or rows j es below)

-- what holds of the pair of the number holds of each pair that stands there
pub pair-holds : (pairs : List Pair) (k : ℕ) (P : Pair → Type 0) → IsPairAt pairs k P → (x : Pair) → StandsAt pairs k x → P x
pair-holds pairs k P (y, there, holds) x here = subst P (stands-one pairs k y x there here) holds

-- a row by its place, whatever stands for those that are missing
pub row-is : (rows : List (List Price)) (j : ℕ) (es : List Price) → j < length rows → es ≡ get_or rows j es → row_at rows j ≡ es
row-is [] j es below is = absurd (omega arith)
row-is (fs ∷ rows) zero es below is = sym is
row-is (fs ∷ rows) (suc j) es below is = row-is rows j es (omega arith) is

-- what holds of the rows up to a place and of a new row there
pub rows-next : (P : ℕ → List Price → Type 0) (rows : List (List Price)) (i : ℕ) (new : List Price) → i < length rows
    → ((j : ℕ) → j < i → P j (row_at rows j)) → P i new → (j : ℕ) → j < i + 1 → P j (row_at (set rows i new) j)
rows-next P rows i new below before here j within = by (let h : (j ≡ i) ⊎ (j < i) = grind arith in h)
  where
    by : (j ≡ i) ⊎ (j < i) → P j (row_at (set rows i new) j)
    by (inl is) = subst (λ n. P n (row_at (set rows i new) n)) (sym is) (subst (P i) (sym (get_or-set_same rows i new [] below)) here)
    by (inr earlier) = subst (P j) (sym (get_or-set_other rows i j new [] (λ is. let n : j ≡ i = is in omega arith))) (before j earlier)

-- rows in two parts, of which the second begins with a new one
pub row-left : (front back : List (List Price)) (j : ℕ) → j < length front → row_at (front ++ back) j ≡ row_at front j
row-left [] back j below = absurd (omega arith)
row-left (es ∷ front) back zero below = refl
row-left (es ∷ front) back (suc j) below = row-left front back j (omega arith)

pub row-first : (front back : List (List Price)) (new : List Price) → 0 < length back → row_at (front ++ set back 0 new) (length front) ≡ new
row-first [] [] new some = absurd (omega arith)
row-first [] (es ∷ back) new some = refl
row-first (es ∷ front) back new some = row-first front back new some

pub first-is : (back : List (List Price)) (new d : List Price) → 0 < length back → get_or (set back 0 new) 0 d ≡ new
first-is [] new d some = absurd (omega arith)
first-is (es ∷ back) new d some = refl
