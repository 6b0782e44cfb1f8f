-- Which pairs a generation has to evaluate, and how many evaluations that makes.
use Rattle.std.specs.Prelude.{ℕ, zero, suc, ◌+◌, ◌&&◌, not, Bool, true, false, List, [], ◌∷◌, length, count_by}
use Rattle.std.specs.List.{list_any}
use Rattle.std.specs.Str.{bytes_eq}
use Rattle.spectro_spec.specs.System.{System}
use Rattle.spectro_spec.specs.Weighing.{Weighing}
use Rattle.spectro_spec.specs.Price.{Price, parts}
use Rattle.spectro_game.specs.Pairs.{Pair, followers}
use Rattle.spectro_game.specs.Generations.{generation}

-- whether the lists have the same prices in the same order
abbrev pub is_same_list : List Price → List Price → Bool
is_same_list [] [] = true
is_same_list [] (f ∷ fs) = false
is_same_list (e ∷ es) [] = false
is_same_list (e ∷ es) (f ∷ fs) = bytes_eq (parts e) (parts f) && is_same_list es fs

-- whether generation k + 1 changed the list of the pair
abbrev pub has_changed : Weighing → System → ℕ → Pair → Bool
has_changed weighing system k x = not (is_same_list (generation weighing system (suc k) x.state x.set) (generation weighing system k x.state x.set))

-- whether the generation after k evaluates the pair: the first one evaluates each, a later one those with a follower whose list generation k changed
unfoldable pub is_marked : Weighing → System → ℕ → Pair → Bool
is_marked weighing system zero x = true
is_marked weighing system (suc k) x = list_any (has_changed weighing system k) (followers system x)

-- how many pairs the generations after 0 to k evaluate
abbrev pub evaluations_to : Weighing → System → List Pair → ℕ → ℕ
evaluations_to weighing system pairs zero = count_by (is_marked weighing system zero) pairs
evaluations_to weighing system pairs (suc k) = evaluations_to weighing system pairs k + count_by (is_marked weighing system (suc k)) pairs

-- the evaluations of as many generations as there are pairs, and of one more
abbrev pub evaluations : Weighing → System → List Pair → ℕ
evaluations weighing system pairs = evaluations_to weighing system pairs (length pairs)
