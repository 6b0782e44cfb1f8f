-- The pairs of a comparison, and what is explored from its start.
use Rattle.std.proofs.Common.{◌≡◌, ◌∙◌, ◌+◌, ◌<◌, ℕ, List, [], ◌∷◌, refl, arith}
use Rattle.spectro_spec.specs.System.{System, join}
use Rattle.spectro_game.specs.Pairs as game
use Rattle.spectro_game.specs.Pairs.{Pair, AreReachedPairs}
use Rattle.spectro_theory.specs.Reaching.{with_all, with_last}
use Rattle.spectro_theory.proofs.Reaching.{some_pairs}
use Rattle.spectro_theory.proofs.Places.{stands-below}
use Rattle.spectro_pairs.specs.Explored.{start_pairs}
use Rattle.spectro_pairs.specs.Limits.{IsPastLimit}
use Rattle.spectro_pairs.specs.declared.error.ExploreError.TheVariants.{TooLarge}
use Rattle.spectro_report.specs.Compared.{AreCompared, forth_pair, initial_of_right}

-- the one start is the pair that is compared
pub one_start : (first second : ℕ) → start_pairs ((first, second) ∷ []) ≡ record { state = first; set = second ∷ [] } ∷ []
unfolding with_all with_last
one_start first second = refl

-- there is a list of the pairs
pub some_compared : (left right : System) → (pairs : List Pair) × AreCompared left right pairs
some_compared left right = some_pairs (join left right) (forth_pair left right ∷ [])
    (λ i j x first second. only i j (stands-below (forth_pair left right ∷ []) i x first) (stands-below (forth_pair left right ∷ []) j x second))
  where
    only : (i j : ℕ) → i < 1 → j < 1 → i ≡ j
    only i j first second = omega arith

-- what is reached from the one start of the joined system is the pairs of the comparison, and the other way
pub reached_compared : (left right system : System) (first second : ℕ) (pairs : List Pair) → system ≡ join left right → first ≡ left.initial
    → second ≡ left.states + right.initial
    → AreReachedPairs system (start_pairs ((first, second) ∷ [])) pairs ≡ AreCompared left right pairs
reached_compared left right system first second pairs joined same also =
    let starts : start_pairs ((first, second) ∷ []) ≡ forth_pair left right ∷ [] = one_start first second
    ∙ (λ i. record { state = same i; set = also i ∷ [] } ∷ []) in
    λ i. AreReachedPairs (joined i) (starts i) pairs

-- where each list of what is reached is past the limit, the comparison is
pub past_limit : (left right system : System) (first second limit at_least : ℕ) → system ≡ join left right → first ≡ left.initial
    → second ≡ left.states + right.initial
    → ((pairs : List Pair) → AreReachedPairs system (start_pairs ((first, second) ∷ [])) pairs → IsPastLimit (TooLarge at_least) limit (game.size pairs))
    → (pairs : List Pair) × AreCompared left right pairs × (limit < game.size pairs)
past_limit left right system first second limit at_least joined same also past =
    let some = some_compared left right in
    let (above, below) = past some.0 (rw (reached_compared left right system first second some.0 joined same also) some.1) in
    (some.0, some.1, omega arith)
