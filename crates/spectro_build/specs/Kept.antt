-- What is chosen, as the builder keeps it.
use Rattle.std.specs.Prelude.{ℕ, ◌<◌, List, [], ◌∷◌, map}
use Rattle.spectro_spec.specs.System.{System}
use Rattle.spectro_spec.specs.Price.{Price}
use Rattle.spectro_game.specs.Pairs.{Pair}
use Rattle.spectro_build.specs.Choices.{Choice}
use Rattle.spectro_build.specs.Chosen.{observation_at, split_at}
use Rattle.spectro_build.specs.declared.choosing.Chosen.{Chosen}
use Rattle.spectro_build.specs.declared.choosing.Chosen.TheVariants.{Observed, Split}
use Rattle.spectro_build.specs.declared.clauses.SignedKey.{SignedKey}
use Rattle.spectro_build.specs.declared.key.Key.{Key}

-- the observation, or the split by the clauses
abbrev pub kept_choice : System → List Pair → List (List Price) → List SignedKey → Chosen → Choice
kept_choice system pairs rows clauses (Observed seen) = observation_at system pairs rows seen
kept_choice system pairs rows clauses Split = split_at pairs rows clauses

-- the keys of the clauses
abbrev pub keys_of_clauses : List SignedKey → List Key
keys_of_clauses clauses = map (λ (clause : SignedKey). clause.key) clauses

-- the keys of what it takes
abbrev pub keys_taken : List SignedKey → Chosen → List Key
keys_taken clauses (Observed seen) = seen.next ∷ []
keys_taken clauses Split = keys_of_clauses clauses

-- where it observes, its label is one of so many
abbrev pub IsOneOfLabels : ℕ → Chosen → Type 0
IsOneOfLabels n (Observed seen) = seen.label < n
IsOneOfLabels n Split = Unit {0}
