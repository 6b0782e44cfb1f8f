-- The size of the game on a list of pairs, by the positions of each pair.
use Rattle.std.proofs.Common.{ℕ, zero, suc, ◌+◌, ◌^◌, ◌<◌, ◌≤◌, ◌≡◌, ◌≢◌, inl, inr, List, [], ◌∷◌, length, refl, sym, subst, arith, lit<, Bool, cond, eqb}
use Rattle.std.proofs.lemmas.List.Sums.{sum_by-append, sum_by-cons}
use Rattle.std.proofs.lemmas.Bool.{cases_lt, ne_eqb}
use Rattle.std.proofs.Math.Nat.{pow-le-pow_right, one-le-pow}
use Rattle.spectro_game.specs.Pairs.{Pair, positions, size}
use Rattle.spectro_game.specs.Reached.{StandsAt}
use Rattle.spectro_theory.specs.LawsOfSizes.{SizesAddUp, FrontsAreNoLarger, PairsAreAtMostHalfTheSize, PairsHavePositionsByTheirMembers, PairsHaveAtMostAllPositions, PartsAreFewerThanTheSize, SetsHaveAtMostNineteenMembers}
use Rattle.spectro_theory.proofs.Places.{stands-one}

pub size-append : SizesAddUp
size-append front rest = sum_by-append positions front rest

pub size-one : (x : Pair) → size (x ∷ []) ≡ positions x
size-one x = omega (arith, sum_by-cons positions x [])

pub size-front : FrontsAreNoLarger
size-front front rest = omega (arith, size-append front rest)

-- ---- the positions of a pair
-- for how many positions a pair with a set of n members stands
abbrev positions_by : ℕ → Bool → ℕ
positions_by n one = 1 + 2 ^ n + cond one 1 0

positions-other : (n : ℕ) → n ≢ 1 → positions_by n (eqb n 1) ≡ 2 ^ n + 1
positions-other n apart = subst (λ b. positions_by n b ≡ 2 ^ n + 1) (sym (ne_eqb n 1 apart)) (omega arith)

positions-one : (n : ℕ) → n ≡ 1 → positions_by n (eqb n 1) ≡ 4
positions-one n e = subst (λ m. positions_by m (eqb m 1) ≡ 4) (sym e) refl

pub positions-members : PairsHavePositionsByTheirMembers
positions-members x = (positions-other (length x.set), positions-one (length x.set))

positions-above : (x : Pair) → 2 ^ length x.set < positions x
positions-above x = omega arith

-- ---- the size of pairs
pub half-size : PairsAreAtMostHalfTheSize
half-size [] = omega arith
half-size (x ∷ xs) = omega (arith, half-size xs, positions-above x, one-le-pow (length x.set) 2 (lit< tt), sum_by-cons positions x xs)

positions-at : (xs : List Pair) (k : ℕ) (x : Pair) → StandsAt xs k x → positions x ≤ size xs
positions-at [] k x here = cc
positions-at (y ∷ xs) zero x here =
    let e : y ≡ x = stands-one (y ∷ xs) zero y x refl here in
    subst (λ z. positions z ≤ size (y ∷ xs)) e (omega (arith, sum_by-cons positions y xs))
positions-at (y ∷ xs) (suc k) x here = omega (arith, positions-at xs k x here, sum_by-cons positions y xs)

pub positions-size : PairsHaveAtMostAllPositions
positions-size xs x (k, here) = positions-at xs k x here

pub parts-size : PartsAreFewerThanTheSize
parts-size xs x member = omega (arith, positions-above x, positions-size xs x member)

pub few_members : SetsHaveAtMostNineteenMembers
few_members xs x within member = elim (cases_lt (length x.set) 20) [
  | inl below ↦ omega arith
  | inr past ↦ absurd (let large : 2 ^ 20 ≤ 2 ^ length x.set = pow-le-pow_right (lit< tt) past in omega (arith, large, parts-size xs x member))
]
