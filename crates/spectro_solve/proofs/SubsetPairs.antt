-- Pairs of a state and a subset, by the mask of the subset.
use Rattle.std.proofs.Common.{ℕ, zero, suc, ◌≡◌, ◌≢◌, ◌<◌, ◌≤◌, ◌-◌, ◌*◌, ◌^◌, ◌%◌, ◌/◌, List, [], ◌∷◌, length, drop, eqb, refl, sym, ap, subst, ◌∙◌, arith}
use Rattle.std.proofs.Math.Nat.{pow-suc}
use Rattle.std.proofs.Math.Pow.{pow-lt}
use Rattle.std.proofs.lemmas.Nat.{pow_pos}
use Rattle.std.specs.Option.{option_map_or}
use Rattle.spectro_game.specs.Divisions.{Division, divisions}
use Rattle.spectro_game.specs.Pairs.{Pair, subsets}
use Rattle.spectro_game.specs.Reached.{StandsAt}
use Rattle.spectro_theory.proofs.Masks.{division_at, divisions-place, with_member}
use Rattle.spectro_theory.proofs.Places.{Contains-stands, stands-map, stands-one}
use Rattle.spectro_theory.proofs.DivisionLists.{later_divisions-TakesSome}
use Rattle.spectro_pairs.specs.Arenas.{IsSubset, set_at}

-- the first is left out
stands-rest : {X : Type 0} (xs : List X) (i : ℕ) (x : X) → StandsAt xs (suc i) x → StandsAt (drop 1 xs) i x
stands-rest [] i x here = cc
stands-rest (y ∷ xs) i x here = here

-- the state against the left part of the division of the mask
abbrev pub subset_of : Pair → ℕ → Pair
subset_of x mask = record { state = x.state; set = (division_at mask x.set).left }

pub subset-stands : (x : Pair) (mask : ℕ) → 1 ≤ mask → mask < 2 ^ length x.set → StandsAt (subsets x) (mask - 1) (subset_of x mask)
subset-stands x zero some below = absurd (omega arith)
subset-stands x (suc m) some below =
    let place = stands-rest (divisions x.set) m (division_at (suc m) x.set) (divisions-place x.set (suc m) below) in
    let less : suc m - 1 ≡ m = omega arith in
    subst (λ n. StandsAt (subsets x) n (subset_of x (suc m))) (sym less)
    (stands-map (λ (d : Division). record { state = x.state; set = d.left }) (drop 1 (divisions x.set)) m (division_at (suc m) x.set) place)

-- the pair that an arena answers for the mask
pub subset-pair : (pairs : List Pair) (k mask pair : ℕ) (x : Pair) → StandsAt pairs k x → 1 ≤ mask → mask < 2 ^ length x.set → IsSubset pairs k mask pair
    → StandsAt pairs pair (subset_of x mask)
subset-pair pairs k mask pair x here some below found =
    let same : found.from ≡ x = stands-one pairs k found.from x found.here here in
    let to : found.to ≡ subset_of x mask = stands-one (subsets x) (mask - 1) found.to (subset_of x mask)
    (subst (λ (z : Pair). StandsAt (subsets z) (mask - 1) found.to) same found.follows) (subset-stands x mask some below) in
    subst (StandsAt pairs pair) to found.there

-- mask 0 takes no member
pub left-zero : (qs : List ℕ) → (division_at 0 qs).left ≡ []
unfolding division_at
left-zero [] = refl
left-zero (q ∷ qs) = left-zero qs

-- a power of two takes one
pub left-alone : (qs : List ℕ) (i q : ℕ) → StandsAt qs i q → (division_at (2 ^ i) qs).left ≡ q ∷ []
unfolding division_at
left-alone [] i q here = cc
left-alone (p ∷ qs) zero q here = let own : p ≡ q = cc in (λ j. own j ∷ left-zero qs j)
left-alone (p ∷ qs) (suc i) q here =
    let even : (2 ^ suc i) % 2 ≡ 0 = omega (arith, pow-suc 2 i) in
    let half : (2 ^ suc i) / 2 ≡ 2 ^ i = omega (arith, pow-suc 2 i) in
    ap (λ n. (with_member p (eqb n 1) (division_at ((2 ^ suc i) / 2) qs)).left) even ∙ ap (λ m. (division_at m qs).left) half ∙ left-alone qs i q here

-- the power as the machine makes it
pub power-is : (i n : ℕ) → i < n → n ≤ 19 → ((1 * 2 ^ i) % 4294967296 ≡ 2 ^ i) × (2 ^ i < 2 ^ n) × (1 ≤ 2 ^ i)
power-is i n below few =
    let small : 2 ^ i < 2 ^ 19 = pow-lt {i = i} {j = 19} (omega arith) in
    let numeral : 2 ^ 19 ≡ 524288 = refl in
    (omega arith, pow-lt below, pow_pos i)

-- the set of the pair of the number
pub set-is : (pairs : List Pair) (k : ℕ) (x : Pair) → StandsAt pairs k x → set_at pairs k ≡ x.set
set-is pairs k x here = ap (λ o. option_map_or (λ (y : Pair). y.set) o []) here

-- any other mask takes some member
pub left-some : (mask : ℕ) (qs : List ℕ) → 1 ≤ mask → mask < 2 ^ length qs → (division_at mask qs).left ≢ []
left-some zero qs some below = absurd (omega arith)
left-some (suc m) qs some below = later_divisions-TakesSome qs (division_at (suc m) qs)
    (Contains-stands (drop 1 (divisions qs)) (division_at (suc m) qs)
    (m, stands-rest (divisions qs) m (division_at (suc m) qs) (divisions-place qs (suc m) below)))
