-- What a move of the game does to an energy.
use Rattle.std.specs.Prelude.{ℕ, ◌+◌, ◌-◌, ◌==◌, ◌||◌, nat_lt, max, min, Option, Some, None, if◌then◌else◌}
use Rattle.spectro_spec.specs.Price.{Price}

pub data Update : Type 0 where
  -- a step under a label of this weight
  observe : ℕ → Update
  -- a split of the set
  conjoin : Update
  -- to the subset that the deepest positive clause refutes
  to_deepest : Update
  -- to a state that another clause refutes
  to_other : Update
  -- that clause is positive
  to_positive : Update
  -- that clause is negative
  to_negative : Update

-- the least energy from which the update leaves e
abbrev pub inverse : Update → Price → Price
inverse (observe weight) e = record e { observations = e.observations + 1; weighted_depth = e.weighted_depth + weight }
inverse conjoin e = record e { conjunctions = e.conjunctions + 1 }
inverse to_deepest e = record e { deepest_positive = max e.observations e.deepest_positive }
inverse to_other e = record e { deepest_positive = max e.deepest_positive e.other_positive }
inverse to_positive e = record e { other_positive = max e.observations e.other_positive }
inverse to_negative e = record e { deepest_negative = max e.observations e.deepest_negative; negations = e.negations + 1 }

-- what the update leaves of e, where e can pay for it
abbrev pub apply : Update → Price → Option Price
apply (observe weight) e =
    if (e.observations == 0) || nat_lt e.weighted_depth weight then None
    else Some (record e { observations = e.observations - 1; weighted_depth = e.weighted_depth - weight })
apply conjoin e = if e.conjunctions == 0 then None else Some (record e { conjunctions = e.conjunctions - 1 })
apply to_deepest e = Some (record e { observations = min e.observations e.deepest_positive })
apply to_other e = Some (record e { other_positive = min e.deepest_positive e.other_positive })
apply to_positive e = Some (record e { observations = min e.observations e.other_positive })
apply to_negative e = if e.negations == 0 then None else Some (record e { observations = min e.observations e.deepest_negative; negations = e.negations - 1 })
