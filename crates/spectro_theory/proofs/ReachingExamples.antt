-- What two starts reach in a small system, pair by pair.
use Rattle.std.proofs.Common.{◌≡◌, List, [], ◌∷◌, ℕ, ◌+◌, refl, true, false}
use Rattle.spectro_spec.specs.System.{post}
use Rattle.spectro_spec.proofs.Samples.{late_and_early}
use Rattle.spectro_game.specs.Pairs.{Pair, followers, size}
use Rattle.spectro_theory.specs.Reaching.{with_all, with_last, is_same_pair}

abbrev pair : ℕ → List ℕ → Pair
pair p qs = record { state = p; set = qs }

-- both states and sets are compared, and sets in their order
same : is_same_pair (pair 1 (4 ∷ 5 ∷ [])) (pair 1 (4 ∷ 5 ∷ [])) ≡ true
unfolding is_same_pair
same = refl

other_state : is_same_pair (pair 1 (4 ∷ 5 ∷ [])) (pair 2 (4 ∷ 5 ∷ [])) ≡ false
unfolding is_same_pair
other_state = refl

shorter_set : is_same_pair (pair 1 (4 ∷ 5 ∷ [])) (pair 1 (4 ∷ [])) ≡ false
unfolding is_same_pair
shorter_set = refl

abbrev starts : List Pair
starts = pair 0 (3 ∷ []) ∷ pair 3 (0 ∷ []) ∷ []

-- a start that is given twice stands once
twice : with_all is_same_pair [] (pair 0 (3 ∷ []) ∷ pair 3 (0 ∷ []) ∷ pair 0 (3 ∷ []) ∷ []) ≡ starts
unfolding with_all with_last is_same_pair
twice = refl

-- the followers of the first start: a pair after a step is new, the start and its swap stand there
by_one : with_all is_same_pair starts (followers late_and_early (pair 0 (3 ∷ []))) ≡ pair 0 (3 ∷ []) ∷ pair 3 (0 ∷ []) ∷ pair 1 (4 ∷ 5 ∷ []) ∷ []
unfolding with_all with_last is_same_pair followers post
by_one = refl

-- those of the second
by_two : with_all is_same_pair (pair 0 (3 ∷ []) ∷ pair 3 (0 ∷ []) ∷ pair 1 (4 ∷ 5 ∷ []) ∷ []) (followers late_and_early (pair 3 (0 ∷ [])))
    ≡ pair 0 (3 ∷ []) ∷ pair 3 (0 ∷ []) ∷ pair 1 (4 ∷ 5 ∷ []) ∷ pair 4 (1 ∷ []) ∷ pair 5 (1 ∷ []) ∷ []
unfolding with_all with_last is_same_pair followers post
by_two = refl

-- four positions for a pair with one member, 2 ^ n + 1 for another
sizes : size (pair 0 (3 ∷ []) ∷ pair 1 (4 ∷ 5 ∷ []) ∷ pair 2 [] ∷ []) ≡ 4 + (5 + 2)
sizes = refl
