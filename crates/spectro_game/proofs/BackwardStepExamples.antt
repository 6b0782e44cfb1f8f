-- The backward step over the empty table and over small tables.
use Rattle.std.proofs.Common.{◌≡◌, [], ◌∷◌, refl}
use Rattle.spectro_spec.specs.System.{System, post}
use Rattle.spectro_spec.specs.Weighing.{Weighing}
use Rattle.spectro_game.specs.Sup.{zero_price}
use Rattle.spectro_game.specs.Generations.{Table, clause_prices, sups_of_choices, backward_step}
use Rattle.spectro_game.specs.Rows.{listed_at}
use Rattle.spectro_spec.proofs.Samples.{a, b, step, two_stopped, one_step, six, seven}
use Rattle.spectro_game.proofs.PairExamples.{pair}

-- a costs 5
abbrev pub dear : Weighing
dear = record { label = a; weight = 5 } ∷ []

abbrev empty : Table
empty p qs = []

-- nothing is to be refuted
backward_step-no_set : backward_step [] two_stopped empty 0 [] ≡ six 0 1 0 0 0 0 ∷ []
backward_step-no_set = refl

backward_step-empty : backward_step [] two_stopped empty 0 (1 ∷ []) ≡ []
backward_step-empty = refl

-- where the set is left behind a formula that is true everywhere is enough
abbrev only_no_set : Table
only_no_set = listed_at (pair 1 [] ∷ []) ((six 0 1 0 0 0 0 ∷ []) ∷ [])

backward_step-observed : backward_step [] one_step only_no_set 0 (1 ∷ []) ≡ six 1 1 0 0 0 0 ∷ []
unfolding listed_at post
backward_step-observed = refl

backward_step-observed_dear : backward_step dear one_step only_no_set 0 (1 ∷ []) ≡ seven 1 1 0 0 0 0 5 ∷ []
unfolding listed_at post
backward_step-observed_dear = refl

-- no step leads from 1
backward_step-stopped : backward_step [] one_step only_no_set 1 (0 ∷ []) ≡ []
unfolding listed_at post
backward_step-stopped = refl

-- each step counts, also with a label that another has, and the least of them stay
abbrev fork : System
fork = record { states = 4; initial = 0; steps = step 0 a 1 ∷ step 0 b 2 ∷ step 0 a 3 ∷ step 0 a 1 ∷ [] }

abbrev after_each_step : Table
after_each_step =
    listed_at (pair 1 [] ∷ pair 2 [] ∷ pair 3 [] ∷ [])
    ((seven 1 1 1 0 0 0 0 ∷ []) ∷ (seven 2 1 0 0 0 0 3 ∷ []) ∷ (seven 3 1 1 0 0 0 0 ∷ seven 3 1 0 0 1 1 9 ∷ []) ∷ [])

backward_step-each_step :
    backward_step dear fork after_each_step 0 (2 ∷ [])
    ≡ seven 2 1 1 0 0 0 5 ∷ seven 3 1 0 0 0 0 4 ∷ []
unfolding listed_at post
backward_step-each_step = refl

-- no true table lists a price here; the one clause is positive, since 1 is no other state
backward_step-against_itself : backward_step [] two_stopped (listed_at (pair 1 (1 ∷ []) ∷ []) ((six 2 1 0 0 0 0 ∷ []) ∷ [])) 1 (1 ∷ []) ≡ six 2 2 2 0 0 0 ∷ []
unfolding listed_at
backward_step-against_itself = refl

-- the clause is negative
backward_step-negative : backward_step [] two_stopped (listed_at (pair 1 (0 ∷ []) ∷ []) ((six 2 1 0 0 0 0 ∷ []) ∷ [])) 0 (1 ∷ []) ≡ six 2 2 0 0 2 1 ∷ []
unfolding listed_at
backward_step-negative = refl

-- a positive clause refutes 1 and a negative one 2
abbrev one_each_way : Table
one_each_way = listed_at (pair 0 (1 ∷ []) ∷ pair 2 (0 ∷ []) ∷ []) ((six 1 1 0 0 0 0 ∷ []) ∷ (six 3 1 0 0 0 0 ∷ []) ∷ [])

backward_step-one_each_way : backward_step [] two_stopped one_each_way 0 (1 ∷ 2 ∷ []) ≡ six 3 2 1 0 3 1 ∷ []
unfolding listed_at
backward_step-one_each_way = refl

-- nothing refutes 3
backward_step-one_too_many : backward_step [] two_stopped one_each_way 0 (1 ∷ 2 ∷ 3 ∷ []) ≡ []
unfolding listed_at
backward_step-one_too_many = refl

abbrev each_against_the_other : Table
each_against_the_other = listed_at (pair 0 (1 ∷ []) ∷ pair 1 (0 ∷ []) ∷ []) ((six 1 1 0 0 0 0 ∷ []) ∷ (six 3 1 0 2 0 0 ∷ []) ∷ [])

clause_prices-two_ways : clause_prices each_against_the_other 0 1 ≡ six 1 1 1 1 0 0 ∷ six 3 1 2 2 3 1 ∷ []
unfolding listed_at
clause_prices-two_ways = refl

-- one clause refutes both states, or one each of them
abbrev together_or_apart : Table
together_or_apart =
    listed_at (pair 0 (1 ∷ []) ∷ pair 0 (2 ∷ []) ∷ pair 0 (1 ∷ 2 ∷ []) ∷ [])
    ((six 1 1 0 0 0 0 ∷ []) ∷ (six 2 1 0 0 0 0 ∷ []) ∷ (six 3 1 0 0 0 0 ∷ []) ∷ [])

backward_step-together_or_apart : backward_step [] two_stopped together_or_apart 0 (1 ∷ 2 ∷ []) ≡ six 2 2 2 1 0 0 ∷ six 3 2 3 0 0 0 ∷ []
unfolding listed_at
backward_step-together_or_apart = refl

-- each list has one price in a choice
sups_of_choices-two_and_two : sups_of_choices ((seven 1 0 0 0 0 0 0 ∷ seven 0 2 0 0 0 0 0 ∷ []) ∷ (seven 0 0 3 0 0 0 0 ∷ seven 0 0 0 4 0 0 0 ∷ []) ∷ []) ≡
    seven 1 0 3 0 0 0 0 ∷ seven 1 0 0 4 0 0 0 ∷ seven 0 2 3 0 0 0 0 ∷ seven 0 2 0 4 0 0 0 ∷ []
sups_of_choices-two_and_two = refl

sups_of_choices-no_lists : sups_of_choices [] ≡ zero_price ∷ []
sups_of_choices-no_lists = refl

sups_of_choices-one_empty : sups_of_choices ((seven 1 0 0 0 0 0 0 ∷ []) ∷ [] ∷ []) ≡ []
sups_of_choices-one_empty = refl
