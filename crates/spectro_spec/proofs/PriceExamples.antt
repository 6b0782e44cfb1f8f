-- Worked prices, which the checker computes.
use Rattle.std.proofs.Common.{arith, ◌≤◌, ◌≡◌, [], ◌∷◌, refl}
use Rattle.std.proofs.lemmas.List.Elements.{All-from_recursion}
use Rattle.spectro_spec.specs.Formula.{see, all, no_clauses, plus, minus}
use Rattle.spectro_spec.specs.Weighing.{Weighing, IsWeighing, weight_of}
use Rattle.spectro_spec.specs.Pricing.{price, greatest, second_greatest}
use Rattle.spectro_spec.proofs.Samples.{a, b, c, true_everywhere, enabled, disabled, then_both, then_both_by_negations, then_not, seven, six}

greatest-none : greatest [] ≡ 0
greatest-none = refl

greatest-in_the_middle : greatest (1 ∷ 3 ∷ 2 ∷ []) ≡ 3
greatest-in_the_middle = refl

second_greatest-none : second_greatest [] ≡ 0
second_greatest-none = refl

second_greatest-alone : second_greatest (3 ∷ []) ≡ 0
second_greatest-alone = refl

second_greatest-two_equal : second_greatest (3 ∷ 3 ∷ []) ≡ 3
second_greatest-two_equal = refl

second_greatest-last : second_greatest (1 ∷ 3 ∷ 2 ∷ []) ≡ 2
second_greatest-last = refl

second_greatest-rising : second_greatest (1 ∷ 2 ∷ 3 ∷ []) ≡ 2
second_greatest-rising = refl

second_greatest-falling : second_greatest (3 ∷ 2 ∷ 1 ∷ []) ≡ 2
second_greatest-falling = refl

second_greatest-after_zero : second_greatest (0 ∷ 3 ∷ []) ≡ 0
second_greatest-after_zero = refl

price-true_everywhere : price [] true_everywhere ≡ six 0 1 0 0 0 0
price-true_everywhere = refl

price-enabled : price [] (enabled a) ≡ six 1 1 0 0 0 0
price-enabled = refl

price-three_observations : price [] (see a (see b (enabled c))) ≡ six 3 1 0 0 0 0
price-three_observations = refl

price-one_positive_clause : price [] (all (plus (enabled a) no_clauses)) ≡ six 1 2 1 0 0 0
price-one_positive_clause = refl

price-two_positive_clauses : price [] (all (plus (enabled a) (plus (enabled b) no_clauses))) ≡ six 1 2 1 1 0 0
price-two_positive_clauses = refl

price-repeated_clause : price [] (all (plus (enabled a) (plus (enabled a) no_clauses))) ≡ six 1 2 1 1 0 0
price-repeated_clause = refl

price-one_deeper_clause : price [] (all (plus (enabled a) (plus (see a (enabled a)) no_clauses))) ≡ six 2 2 2 1 0 0
price-one_deeper_clause = refl

price-two_deeper_clauses : price [] (all (plus (enabled a) (plus (see a (enabled a)) (plus (see a (enabled b)) no_clauses)))) ≡ six 2 2 2 2 0 0
price-two_deeper_clauses = refl

price-negative_clause : price [] (disabled a) ≡ six 1 2 0 0 1 1
price-negative_clause = refl

price-two_negative_clauses : price [] (all (minus (enabled a) (minus (see b (enabled a)) no_clauses))) ≡ six 2 2 0 0 2 1
price-two_negative_clauses = refl

price-both_signs : price [] (all (plus (enabled a) (plus (see a (enabled a)) (minus (enabled a) no_clauses)))) ≡ six 2 2 2 1 1 1
price-both_signs = refl

-- a negative clause counts as deep as it is, and not among the positive ones
price-deeper_negative_clause : price [] (all (minus (see a (enabled a)) (plus (enabled b) no_clauses))) ≡ six 2 2 1 0 2 1
price-deeper_negative_clause = refl

price-negation_of_negation : price [] (all (minus (disabled a) no_clauses)) ≡ six 1 3 0 0 1 2
price-negation_of_negation = refl

-- two negations side by side are no deeper than one
price-negations_side_by_side : price [] (all (minus (enabled a) (plus (see b (disabled a)) no_clauses))) ≡ six 2 3 2 0 1 1
price-negations_side_by_side = refl

-- what a conjunction inside a negative clause has counts as it stands
price-conjunction_in_negative_clause : price [] (all (minus then_both no_clauses)) ≡ six 2 3 1 1 2 1
price-conjunction_in_negative_clause = refl

price-conjunction_in_positive_clause : price [] (all (plus then_both no_clauses)) ≡ six 2 3 2 1 0 0
price-conjunction_in_positive_clause = refl

price-negation_in_positive_clause : price [] (all (plus (disabled a) no_clauses)) ≡ six 1 3 1 0 1 1
price-negation_in_positive_clause = refl

price-nested_conjunctions : price [] (all (plus (all (plus true_everywhere no_clauses)) no_clauses)) ≡ six 0 3 0 0 0 0
price-nested_conjunctions = refl

price-then_both : price [] then_both ≡ six 2 2 1 1 0 0
price-then_both = refl

price-then_both_by_negations : price [] then_both_by_negations ≡ six 2 3 0 0 1 2
price-then_both_by_negations = refl

price-then_not : price [] (then_not c) ≡ six 2 2 0 0 1 1
price-then_not = refl

-- a weighs 5, and b nothing
abbrev dear_and_free : Weighing
dear_and_free = record { label = a; weight = 5 } ∷ record { label = b; weight = 0 } ∷ []

IsWeighing-dear_and_free : IsWeighing dear_and_free
IsWeighing-dear_and_free = All-from_recursion (λ entry. entry.weight ≤ 255) dear_and_free (omega arith, (omega arith, tt))

IsWeighing-greatest : IsWeighing (record { label = a; weight = 255 } ∷ [])
IsWeighing-greatest = All-from_recursion (λ entry. entry.weight ≤ 255) (record { label = a; weight = 255 } ∷ []) (omega arith, tt)

not_IsWeighing-greater : ¬ IsWeighing (record { label = a; weight = 256 } ∷ [])
not_IsWeighing-greater h = let low : 256 ≤ 255 = h 0 (record { label = a; weight = 256 }) (omega arith) in omega arith

weight_of-dear : weight_of dear_and_free a ≡ 5
weight_of-dear = refl

weight_of-free : weight_of dear_and_free b ≡ 0
weight_of-free = refl

weight_of-not_named : weight_of dear_and_free c ≡ 1
weight_of-not_named = refl

-- a label that only begins with another is not that one
weight_of-longer : weight_of dear_and_free (97 ∷ 98 ∷ []) ≡ 1
weight_of-longer = refl

weight_of-named_twice : weight_of (record { label = a; weight = 7 } ∷ dear_and_free) a ≡ 7
weight_of-named_twice = refl

price-weighed : price dear_and_free (see a (see b (enabled c))) ≡ seven 3 1 0 0 0 0 6
price-weighed = refl

-- the clause that is not so deep weighs more
price-weighed_clauses : price dear_and_free (all (plus (enabled a) (plus (see b (enabled b)) no_clauses))) ≡ seven 2 2 2 1 0 0 5
price-weighed_clauses = refl

price-weighed_negative_clause : price dear_and_free (disabled a) ≡ seven 1 2 0 0 1 1 5
price-weighed_negative_clause = refl
