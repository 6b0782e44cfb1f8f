-- What is reached from the one start of the system of one step, by place.
use Rattle.std.proofs.Common.{◌≡◌, ◌<◌, ◌≤◌, inr, ℕ, zero, suc, ◌+◌, List, [], ◌∷◌, length, drop, refl, sym, ◌∙◌, ap, subst, arith}
use Rattle.std.specs.Prelude.{◌==◌, if◌then◌else◌}
use Rattle.spectro_spec.specs.System.{post}
use Rattle.spectro_game.specs.Pairs.{Pair, followers}
use Rattle.spectro_game.specs.Reached.{StandsAt, StandsIn, IsFoundBefore, Follows, IsFoundAt, AreReached}
use Rattle.spectro_spec.proofs.Samples.{one_step}
use Rattle.spectro_game.proofs.PairExamples.{pair}

abbrev pub starts : List Pair
starts = pair 0 (1 ∷ []) ∷ []

abbrev pub reached : List Pair
reached = pair 0 (1 ∷ []) ∷ pair 1 [] ∷ pair 1 (0 ∷ []) ∷ []

abbrev pub follow : Pair → List Pair
follow = followers one_step

-- the followers of the pair at the place
abbrev pub row : ℕ → List Pair
row zero = pair 1 [] ∷ pair 0 (1 ∷ []) ∷ pair 1 (0 ∷ []) ∷ []
row (suc zero) = []
row (suc (suc zero)) = pair 1 (0 ∷ []) ∷ pair 0 (1 ∷ []) ∷ []
row (suc (suc (suc i))) = []

pub row_of : (i r : ℕ) (y : Pair) → Follows follow reached i r y → StandsAt (row i) r y
unfolding followers post
row_of zero r y (x, e, h) = let same : pair 0 (1 ∷ []) ≡ x = cc in subst (λ z. StandsAt (follow z) r y) (sym same) h
row_of (suc zero) r y (x, e, h) = let same : pair 1 [] ≡ x = cc in subst (λ z. StandsAt (follow z) r y) (sym same) h
row_of (suc (suc zero)) r y (x, e, h) = let same : pair 1 (0 ∷ []) ≡ x = cc in subst (λ z. StandsAt (follow z) r y) (sym same) h
row_of (suc (suc (suc i))) r y (x, e, h) = cc

-- a list that begins with the start
abbrev pub begun : List Pair → List Pair
begun rest = pair 0 (1 ∷ []) ∷ rest

pub follows-start : (rest : List Pair) (r : ℕ) (y : Pair) → StandsAt (row 0) r y → Follows follow (begun rest) 0 r y
unfolding followers post
follows-start rest r y h = (pair 0 (1 ∷ []), refl, h)

row_of_start : (rest : List Pair) (r : ℕ) (y : Pair) → Follows follow (begun rest) 0 r y → StandsAt (row 0) r y
row_of_start rest r y (x, e, h) = row_of 0 r y (x, e, h)

-- a place that the pair itself tells
abbrev pub place : Pair → ℕ
place x = if x.state == 0 then 0 else length x.set + 1

at_its_place : (i : ℕ) (x : Pair) → StandsAt reached i x → i ≡ place x
at_its_place zero x h = let same : pair 0 (1 ∷ []) ≡ x = cc in subst (λ y. 0 ≡ place y) same refl
at_its_place (suc zero) x h = let same : pair 1 [] ≡ x = cc in subst (λ y. 1 ≡ place y) same refl
at_its_place (suc (suc zero)) x h = let same : pair 1 (0 ∷ []) ≡ x = cc in subst (λ y. 2 ≡ place y) same refl
at_its_place (suc (suc (suc i))) x h = cc

start_first : (i : ℕ) (x : Pair) → StandsAt starts i x → StandsAt reached i x
start_first zero x h = h
start_first (suc i) x h = cc

pub row_inside : (i r : ℕ) (y : Pair) → StandsAt (row i) r y → StandsIn reached y
row_inside zero zero y h = (1, h)
row_inside zero (suc zero) y h = (0, h)
row_inside zero (suc (suc zero)) y h = (2, h)
row_inside zero (suc (suc (suc r))) y h = cc
row_inside (suc zero) r y h = cc
row_inside (suc (suc zero)) zero y h = (2, h)
row_inside (suc (suc zero)) (suc zero) y h = (0, h)
row_inside (suc (suc zero)) (suc (suc r)) y h = cc
row_inside (suc (suc (suc i))) r y h = cc

-- where no earlier follower of the start is y
pub found_by_start : (rest : List Pair) (r : ℕ) (y : Pair) → StandsAt (row 0) r y → ((t : ℕ) → t < r → StandsAt (row 0) t y → ⊥)
    → IsFoundAt follow (begun rest) 0 r y
found_by_start rest r y here none = record {
  follows = follows-start rest r y here;
  finder = λ h t early f. omega arith;
  rank = λ t early f. none t early (row_of_start rest t y f);
}

-- the pair after the step and the start itself come before the swap among the followers of the start
pub swap_is_third : (y : Pair) → pair 1 (0 ∷ []) ≡ y → (t : ℕ) → t < 2 → StandsAt (row 0) t y → ⊥
swap_is_third y here zero early h = let same : pair 1 [] ≡ pair 1 (0 ∷ []) = cc in omega (arith, ap place same)
swap_is_third y here (suc zero) early h = let same : pair 0 (1 ∷ []) ≡ pair 1 (0 ∷ []) = cc in omega (arith, ap place same)
swap_is_third y here (suc (suc t)) early h = omega arith

is_swap : (y : Pair) → StandsAt reached 2 y → pair 1 (0 ∷ []) ≡ y
is_swap y h = cc

found_later : (j : ℕ) (y : Pair) → 1 ≤ j → StandsAt reached j y → (i : ℕ) × (r : ℕ) × (i < j) × IsFoundAt follow reached i r y
found_later zero y later h = absurd (omega arith)
found_later (suc zero) y later h = (0, 0, omega arith, found_by_start (drop 1 reached) 0 y h (λ t early f. omega arith))
found_later (suc (suc zero)) y later h = (0, 2, omega arith, found_by_start (drop 1 reached) 2 y h (swap_is_third y (is_swap y h)))
found_later (suc (suc (suc j))) y later h = cc

-- what follows the start is found there
found_first : (i r s : ℕ) (y : Pair) → StandsAt (row 0) s y → IsFoundAt follow reached i r y → i ≡ 0
found_first zero r s y here found = refl
found_first (suc i) r s y here found = absurd (found.finder 0 s (omega arith) (follows-start (drop 1 reached) s y here))

found_at_once : (r : ℕ) (y : Pair) → StandsAt (row 0) 0 y → IsFoundAt follow reached 0 r y → r ≡ 0
found_at_once zero y here found = refl
found_at_once (suc r) y here found = absurd (found.rank 0 (omega arith) (follows-start (drop 1 reached) 0 y here))

not_at_once : (s : ℕ) (z : Pair) → StandsAt reached 2 z → IsFoundAt follow reached 0 s z → 0 < s
not_at_once zero z here found = absurd (swap_is_third z (is_swap z here) 0 (omega arith) (row_of 0 0 z found.follows))
not_at_once (suc s) z here found = omega arith

one_before_two : (y z : Pair) (i r h s : ℕ) → StandsAt reached 1 y → StandsAt reached 2 z
    → IsFoundAt follow reached i r y → IsFoundAt follow reached h s z → IsFoundBefore i r h s
one_before_two y z i r h s first second f g =
    let i_is : i ≡ 0 = found_first i r 0 y first f in
    let h_is : h ≡ 0 = found_first h s 2 z second g in
    let r_is : r ≡ 0 = found_at_once r y first (subst (λ k. IsFoundAt follow reached k r y) i_is f) in
    let below : 0 < s = not_at_once s z second (subst (λ k. IsFoundAt follow reached k s z) h_is g) in
    inr (omega arith, omega arith)

in_order : (j l : ℕ) (y z : Pair) (i r h s : ℕ) → 1 ≤ j → j < l → StandsAt reached j y → StandsAt reached l z
    → IsFoundAt follow reached i r y → IsFoundAt follow reached h s z → IsFoundBefore i r h s
in_order zero l y z i r h s later before a b f g = absurd (omega arith)
in_order (suc zero) zero y z i r h s later before a b f g = absurd (omega arith)
in_order (suc zero) (suc zero) y z i r h s later before a b f g = absurd (omega arith)
in_order (suc zero) (suc (suc zero)) y z i r h s later before a b f g = one_before_two y z i r h s a b f g
in_order (suc zero) (suc (suc (suc l))) y z i r h s later before a b f g = cc
in_order (suc (suc j)) zero y z i r h s later before a b f g = absurd (omega arith)
in_order (suc (suc j)) (suc zero) y z i r h s later before a b f g = absurd (omega arith)
in_order (suc (suc j)) (suc (suc zero)) y z i r h s later before a b f g = absurd (omega arith)
in_order (suc (suc j)) (suc (suc (suc l))) y z i r h s later before a b f g = cc

AreReached-one_step : AreReached follow starts reached
AreReached-one_step = record {
  distinct = λ i j x h k. at_its_place i x h ∙ sym (at_its_place j x k);
  begins = start_first;
  closed = λ i r y h. row_inside i r y (row_of i r y h);
  found = found_later;
  rising = in_order;
}
