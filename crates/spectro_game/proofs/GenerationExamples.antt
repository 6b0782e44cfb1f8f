-- Generations of small systems: of one step directly, and of the late against the early choice round by round.
use Rattle.std.proofs.Common.{◌≡◌, List, [], ◌∷◌, refl}
use Rattle.spectro_spec.specs.System.{post}
use Rattle.spectro_spec.specs.Weighing.{Weighing}
use Rattle.spectro_spec.specs.Price.{Price}
use Rattle.spectro_game.specs.Pairs.{Pair}
use Rattle.spectro_game.specs.Generations.{generation}
use Rattle.spectro_game.specs.Rows.{listed_at, next_rows}
use Rattle.spectro_spec.proofs.Samples.{a, b, one_step, late_and_early, six, seven}
use Rattle.spectro_game.proofs.PairExamples.{pair}

generation-empty : generation [] one_step 0 0 (1 ∷ []) ≡ []
unfolding generation post
generation-empty = refl

generation-too_early : generation [] one_step 1 0 (1 ∷ []) ≡ []
unfolding generation post
generation-too_early = refl

generation-enabled : generation [] one_step 2 0 (1 ∷ []) ≡ six 1 1 0 0 0 0 ∷ []
unfolding generation post
generation-enabled = refl

generation-disabled_too_early : generation [] one_step 2 1 (0 ∷ []) ≡ []
unfolding generation post
generation-disabled_too_early = refl

generation-disabled : generation [] one_step 3 1 (0 ∷ []) ≡ six 1 2 0 0 1 1 ∷ []
unfolding generation post
generation-disabled = refl

generation-itself : generation [] one_step 3 0 (0 ∷ []) ≡ []
unfolding generation post
generation-itself = refl

-- a costs 5, and b nothing
abbrev weighed : Weighing
weighed = record { label = a; weight = 5 } ∷ record { label = b; weight = 0 } ∷ []

generation-weighed : generation weighed one_step 3 1 (0 ∷ []) ≡ seven 1 2 0 0 1 1 5 ∷ []
unfolding generation post
generation-weighed = refl

-- what is reached from the late against the early choice
abbrev pairs : List Pair
pairs =
    pair 0 (3 ∷ []) ∷ pair 1 (4 ∷ 5 ∷ []) ∷ pair 3 (0 ∷ []) ∷ pair 2 (6 ∷ []) ∷ pair 1 (4 ∷ [])
    ∷ pair 1 (5 ∷ []) ∷ pair 4 (1 ∷ []) ∷ pair 5 (1 ∷ []) ∷ pair 6 (2 ∷ []) ∷ pair 2 [] ∷ []

abbrev next : List (List Price) → List (List Price)
next = next_rows [] late_and_early pairs

-- nothing is left to refute
abbrev round_1 : List (List Price)
round_1 = [] ∷ [] ∷ [] ∷ [] ∷ [] ∷ [] ∷ [] ∷ [] ∷ [] ∷ (six 0 1 0 0 0 0 ∷ []) ∷ []

-- a label that the other side has not
abbrev round_2 : List (List Price)
round_2 = [] ∷ [] ∷ [] ∷ [] ∷ (six 1 1 0 0 0 0 ∷ []) ∷ (six 1 1 0 0 0 0 ∷ []) ∷ [] ∷ [] ∷ [] ∷ (six 0 1 0 0 0 0 ∷ []) ∷ []

-- two labels, neither of which the other sides have both; a label that is not there
abbrev round_3 : List (List Price)
round_3 =
    [] ∷ (six 1 2 1 1 0 0 ∷ []) ∷ [] ∷ [] ∷ (six 1 1 0 0 0 0 ∷ [])
    ∷ (six 1 1 0 0 0 0 ∷ []) ∷ (six 1 2 0 0 1 1 ∷ []) ∷ (six 1 2 0 0 1 1 ∷ []) ∷ [] ∷ (six 0 1 0 0 0 0 ∷ []) ∷ []

-- and after a step under a
abbrev round_4 : List (List Price)
round_4 =
    (six 2 2 1 1 0 0 ∷ []) ∷ (six 1 2 1 1 0 0 ∷ six 1 3 0 0 1 2 ∷ []) ∷ (six 2 2 0 0 1 1 ∷ []) ∷ [] ∷ (six 1 1 0 0 0 0 ∷ [])
    ∷ (six 1 1 0 0 0 0 ∷ []) ∷ (six 1 2 0 0 1 1 ∷ []) ∷ (six 1 2 0 0 1 1 ∷ []) ∷ [] ∷ (six 0 1 0 0 0 0 ∷ []) ∷ []

abbrev round_5 : List (List Price)
round_5 =
    (six 2 2 1 1 0 0 ∷ six 2 3 0 0 1 2 ∷ []) ∷ (six 1 2 1 1 0 0 ∷ six 1 3 0 0 1 2 ∷ []) ∷ (six 2 2 0 0 1 1 ∷ []) ∷ [] ∷ (six 1 1 0 0 0 0 ∷ [])
    ∷ (six 1 1 0 0 0 0 ∷ []) ∷ (six 1 2 0 0 1 1 ∷ []) ∷ (six 1 2 0 0 1 1 ∷ []) ∷ [] ∷ (six 0 1 0 0 0 0 ∷ []) ∷ []

next_rows-first : next [] ≡ round_1
unfolding next_rows listed_at post
next_rows-first = refl

next_rows-second : next round_1 ≡ round_2
unfolding next_rows listed_at post
next_rows-second = refl

next_rows-third : next round_2 ≡ round_3
unfolding next_rows listed_at post
next_rows-third = refl

next_rows-fourth : next round_3 ≡ round_4
unfolding next_rows listed_at post
next_rows-fourth = refl

next_rows-fifth : next round_4 ≡ round_5
unfolding next_rows listed_at post
next_rows-fifth = refl

-- the last round changes nothing
next_rows-last : next round_5 ≡ round_5
unfolding next_rows listed_at post
next_rows-last = refl

-- with b free and a dear it costs less weighted depth that the other side can avoid what is dearer here, for one negation more
abbrev weighed_rows : List (List Price)
weighed_rows =
    (seven 2 2 1 1 0 0 6 ∷ seven 2 3 0 0 1 2 6 ∷ seven 2 3 0 0 2 2 5 ∷ [])
    ∷ (seven 1 2 1 1 0 0 1 ∷ seven 1 3 0 0 1 2 1 ∷ []) ∷ (seven 2 2 0 0 1 1 5 ∷ []) ∷ [] ∷ (seven 1 1 0 0 0 0 1 ∷ [])
    ∷ (seven 1 1 0 0 0 0 0 ∷ []) ∷ (seven 1 2 0 0 1 1 1 ∷ []) ∷ (seven 1 2 0 0 1 1 0 ∷ []) ∷ [] ∷ (seven 0 1 0 0 0 0 0 ∷ []) ∷ []

abbrev weighed_next : List (List Price) → List (List Price)
weighed_next = next_rows weighed late_and_early pairs

next_rows-weighed : weighed_next weighed_rows ≡ weighed_rows
unfolding next_rows listed_at post
next_rows-weighed = refl

weighed_rounds : weighed_next (weighed_next (weighed_next (weighed_next (weighed_next [])))) ≡ weighed_rows
unfolding next_rows listed_at post
weighed_rounds = refl
