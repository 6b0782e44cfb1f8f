-- The backward step of a table as a list, and the generations that it makes from the empty table.
use Rattle.std.specs.Prelude.{ℕ, zero, suc, ◌==◌, List, [], ◌∷◌, ◌++◌, map, Contains, if◌then◌else◌}
use Rattle.std.specs.List.{flat_map}
use Rattle.spectro_spec.specs.System.{Step, System, post}
use Rattle.spectro_spec.specs.Weighing.{Weighing, weight_of}
use Rattle.spectro_spec.specs.Price.{Price}
use Rattle.spectro_game.specs.Update.{inverse, observe, conjoin, to_deepest, to_other, to_positive, to_negative}
use Rattle.spectro_game.specs.Sup.{sup, zero_price}
use Rattle.spectro_game.specs.MinimalElements.{minimal_elements}
use Rattle.spectro_game.specs.Divisions.{Division, divisions}
use Rattle.spectro_game.specs.BackwardStep.{Listing}

-- a list of prices for each state and set
abbrev pub Table : Type 0
Table = ℕ → List ℕ → List Price

-- a table lists its members
abbrev pub members_of : Table → Listing
members_of table p qs f = Contains (table p qs) f

-- what each step from p makes of the list of its pair
abbrev pub observation_prices : Weighing → System → Table → List Step → ℕ → List ℕ → List Price
observation_prices weighing system table [] p qs = []
observation_prices weighing system table (step ∷ steps) p qs =
    if step.source == p
    then map (inverse (observe (weight_of weighing step.label)))
    (table step.target (post system qs step.label)) ++ observation_prices weighing system table steps p qs
    else observation_prices weighing system table steps p qs

-- what a clause that is true at p and false at q costs, positive or negative
abbrev pub clause_prices : Table → ℕ → ℕ → List Price
clause_prices table p q = map (inverse to_other)
    (map (inverse to_positive) (table p (q ∷ [])) ++ (if p == q then [] else map (inverse to_negative) (table q (p ∷ []))))

-- what the clause that refutes the left part costs; there is none where that part is empty
abbrev pub subset_prices : Table → ℕ → List ℕ → List (List Price)
subset_prices table p [] = []
subset_prices table p (q ∷ qs) = map (inverse to_deepest) (table p (q ∷ qs)) ∷ []

-- one list for each clause of the division
abbrev pub lists_to_choose_from : Table → ℕ → Division → List (List Price)
lists_to_choose_from table p d = subset_prices table p d.left ++ map (clause_prices table p) d.right

-- the sups of one price from each list, in every way
abbrev pub sups_of_choices : List (List Price) → List Price
sups_of_choices [] = zero_price ∷ []
sups_of_choices (es ∷ rest) = flat_map (λ e. map (sup e) (sups_of_choices rest)) es

-- what the splits of the set make
abbrev pub split_prices : Table → ℕ → List ℕ → List Price
split_prices table p qs = flat_map (λ d. map (inverse conjoin) (sups_of_choices (lists_to_choose_from table p d))) (divisions qs)

-- what the table gives in one step backwards
abbrev pub backward_step : Weighing → System → Table → ℕ → List ℕ → List Price
backward_step weighing system table p qs = minimal_elements (observation_prices weighing system table system.steps p qs ++ split_prices table p qs)

-- the empty table after so many backward steps
unfoldable pub generation : Weighing → System → ℕ → Table
generation weighing system zero p qs = []
generation weighing system (suc k) p qs = backward_step weighing system (generation weighing system k) p qs
