-- Which pairs of the system of one step are evaluated, round by round, and how many that makes.
use Rattle.std.proofs.Common.{◌≡◌, ℕ, List, [], ◌∷◌, map, refl, true, false, Bool}
use Rattle.spectro_spec.specs.System.{post}
use Rattle.spectro_game.specs.Pairs.{Pair, followers}
use Rattle.spectro_game.specs.Generations.{generation}
use Rattle.spectro_game.specs.Marks.{is_same_list, is_marked, evaluations_to, evaluations}
use Rattle.spectro_spec.proofs.Samples.{one_step, six, seven}
use Rattle.spectro_game.proofs.PairExamples.{pair}

is_same_list-both_empty : is_same_list [] [] ≡ true
is_same_list-both_empty = refl

is_same_list-longer : is_same_list (six 1 1 0 0 0 0 ∷ []) (six 1 1 0 0 0 0 ∷ six 1 2 0 0 1 1 ∷ []) ≡ false
is_same_list-longer = refl

is_same_list-shorter : is_same_list (six 1 1 0 0 0 0 ∷ six 1 2 0 0 1 1 ∷ []) (six 1 1 0 0 0 0 ∷ []) ≡ false
is_same_list-shorter = refl

is_same_list-same : is_same_list (six 1 1 0 0 0 0 ∷ six 1 2 0 0 1 1 ∷ []) (six 1 1 0 0 0 0 ∷ six 1 2 0 0 1 1 ∷ []) ≡ true
is_same_list-same = refl

is_same_list-last_part : is_same_list (seven 1 1 0 0 0 0 5 ∷ []) (seven 1 1 0 0 0 0 6 ∷ []) ≡ false
is_same_list-last_part = refl

abbrev pairs : List Pair
pairs = pair 0 (1 ∷ []) ∷ pair 1 [] ∷ pair 1 (0 ∷ []) ∷ []

-- which of them the generation after k evaluates
abbrev marked_after : ℕ → List Bool
marked_after k = map (is_marked [] one_step k) pairs

marked-first : marked_after 0 ≡ true ∷ true ∷ true ∷ []
unfolding is_marked
marked-first = refl

-- the list of (1, {}) is new
marked-second : marked_after 1 ≡ true ∷ false ∷ false ∷ []
unfolding is_marked followers generation post
marked-second = refl

-- that of (0, {1})
marked-third : marked_after 2 ≡ true ∷ false ∷ true ∷ []
unfolding is_marked followers generation post
marked-third = refl

-- that of (1, {0})
marked-fourth : marked_after 3 ≡ true ∷ false ∷ true ∷ []
unfolding is_marked followers generation post
marked-fourth = refl

-- none
marked-last : marked_after 4 ≡ false ∷ false ∷ false ∷ []
unfolding is_marked followers generation post
marked-last = refl

evaluations-one_step : evaluations [] one_step pairs ≡ 8
unfolding is_marked followers generation post
evaluations-one_step = refl

evaluations-no_pairs : evaluations [] one_step [] ≡ 0
unfolding is_marked followers generation post
evaluations-no_pairs = refl

evaluations_to-first : evaluations_to [] one_step pairs 0 ≡ 3
unfolding is_marked
evaluations_to-first = refl
