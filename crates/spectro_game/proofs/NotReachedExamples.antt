-- Lists that are not what is reached from the one start of the system of one step.
use Rattle.std.proofs.Common.{◌≡◌, ◌<◌, inl, inr, ℕ, zero, suc, List, [], ◌∷◌, drop, refl, ap, arith}
use Rattle.spectro_game.specs.Pairs.{Pair}
use Rattle.spectro_game.specs.Reached.{StandsAt, StandsIn, IsFoundBefore, Follows, AreReached}
use Rattle.spectro_game.proofs.PairExamples.{pair}
use Rattle.spectro_game.proofs.ReachedExamples.{starts, reached, follow, row_of, begun, follows-start, row_inside, found_by_start, swap_is_third, place}

not_first : StandsIn starts (pair 1 []) → ⊥
not_first (zero, e) = let same : pair 0 (1 ∷ []) ≡ pair 1 [] = cc in omega (arith, ap place same)
not_first (suc i, e) = cc

-- the followers of the start are not there
not_AreReached-start_alone : ¬ AreReached follow starts starts
not_AreReached-start_alone h = not_first (h.closed 0 0 (pair 1 []) (follows-start [] 0 (pair 1 []) refl))

not_AreReached-twice : ¬ AreReached follow starts (begun (pair 1 [] ∷ pair 1 (0 ∷ []) ∷ pair 0 (1 ∷ []) ∷ []))
not_AreReached-twice h = let same = h.distinct 0 3 (pair 0 (1 ∷ [])) refl refl in omega arith

not_AreReached-other_start : ¬ AreReached follow (pair 1 [] ∷ []) reached
not_AreReached-other_start h =
    let first : StandsAt reached 0 (pair 1 []) = h.begins 0 (pair 1 []) refl in
    let same : pair 0 (1 ∷ []) ≡ pair 1 [] = cc in
    omega (arith, ap place same)

abbrev exchanged : List Pair
exchanged = begun (pair 1 (0 ∷ []) ∷ pair 1 [] ∷ [])

-- the pair after the step is found before the swap
not_AreReached-exchanged : ¬ AreReached follow starts exchanged
not_AreReached-exchanged h =
    go (h.rising 1 2 (pair 1 (0 ∷ [])) (pair 1 []) 0 2 0 0 (omega arith) (omega arith) refl refl
    (found_by_start (drop 1 exchanged) 2 (pair 1 (0 ∷ [])) refl (swap_is_third (pair 1 (0 ∷ [])) refl))
    (found_by_start (drop 1 exchanged) 0 (pair 1 []) refl (λ t early f. omega arith)))
  where
    go : IsFoundBefore 0 2 0 0 → ⊥
    go (inl b) = omega arith
    go (inr (same, b)) = omega arith

-- a pair that nothing finds
abbrev with_another : List Pair
with_another = begun (pair 1 [] ∷ pair 1 (0 ∷ []) ∷ pair 7 [] ∷ [])

not_reached : StandsIn reached (pair 7 []) → ⊥
not_reached (zero, e) = let same : pair 0 (1 ∷ []) ≡ pair 7 [] = cc in omega (arith, ap (λ (x : Pair). x.state) same)
not_reached (suc zero, e) = let same : pair 1 [] ≡ pair 7 [] = cc in omega (arith, ap (λ (x : Pair). x.state) same)
not_reached (suc (suc zero), e) = let same : pair 1 (0 ∷ []) ≡ pair 7 [] = cc in omega (arith, ap (λ (x : Pair). x.state) same)
not_reached (suc (suc (suc i)), e) = cc

not_followed : (i r : ℕ) → i < 3 → Follows follow with_another i r (pair 7 []) → ⊥
not_followed zero r below (x, e, h) = not_reached (row_inside 0 r _ (row_of 0 r _ (x, e, h)))
not_followed (suc zero) r below (x, e, h) = not_reached (row_inside 1 r _ (row_of 1 r _ (x, e, h)))
not_followed (suc (suc zero)) r below (x, e, h) = not_reached (row_inside 2 r _ (row_of 2 r _ (x, e, h)))
not_followed (suc (suc (suc i))) r below f = omega arith

not_AreReached-with_another : ¬ AreReached follow starts with_another
not_AreReached-with_another h = let found = h.found 3 (pair 7 []) (omega arith) refl in not_followed found.0 found.1 found.2 found.3.follows
