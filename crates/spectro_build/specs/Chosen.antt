-- Choices by the numbers of labels and by keys.
use Rattle.std.specs.Prelude.{ℕ, ◌==◌, true, false, List, [], ◌∷◌, Option, None, map, slice_index_or, if◌then◌else◌}
use Rattle.std.specs.Option.{option_map}
use Rattle.spectro_spec.specs.System.{Label, System}
use Rattle.spectro_spec.specs.Weighing.{Weighing}
use Rattle.spectro_spec.specs.Price.{Price}
use Rattle.spectro_game.specs.Divisions.{divisions}
use Rattle.spectro_game.specs.Pairs.{Pair}
use Rattle.spectro_game.specs.Generations.{Table}
use Rattle.spectro_game.specs.Reached.{StandsAt}
use Rattle.spectro_lts.specs.Labels.{labels_of}
use Rattle.spectro_pairs.specs.Explored.{Explored}
use Rattle.spectro_pairs.specs.Arenas.{FromEach}
use Rattle.spectro_build.specs.Choices.{ClauseNeed, Choice, by_observation, by_split, observations_of, first_made, observation_choice, with_sign, first_fitting, as_positive, as_negative, split_choice}
use Rattle.spectro_build.specs.Keys.{need_at}
use Rattle.spectro_build.specs.declared.clauses.SignedKey.{SignedKey}
use Rattle.spectro_build.specs.declared.observing.Observed.{Observed}

-- ---- observations
-- the first observation of the pair that fits the price
abbrev pub first_observation_at : Weighing → System → Table → Pair → Price → Option Choice
first_observation_at weighing system table x e = first_made (observation_choice weighing table e) (observations_of system x)

-- the label of the number
abbrev pub label_of : System → ℕ → Label
label_of system label_no = slice_index_or (labels_of system.steps) label_no []

-- the observation under the label of the number, of what the key stands for
abbrev pub observation_at : System → List Pair → List (List Price) → Observed → Choice
observation_at system pairs rows seen = by_observation (label_of system seen.label) (need_at pairs rows seen.next)

-- ---- clauses
-- said of the state of pair k and the member of its set at the place
abbrev pub AtMember : Explored → ℕ → ℕ → (ℕ → ℕ → Type 0) → Type 0
AtMember explored k i Holds = FromEach explored (λ system weighing. (x : Pair) (q : ℕ) → StandsAt explored.pairs k x → StandsAt x.set i q → Holds x.state q)

-- the clause of the sign, for what the key stands for
abbrev pub clause_at : List Pair → List (List Price) → SignedKey → ClauseNeed
clause_at pairs rows clause = with_sign clause.positive (need_at pairs rows clause.key)

-- the positive clause that fits the price, true at p and false at q
abbrev pub positive_clause_at : Table → Price → ℕ → ℕ → Option ClauseNeed
positive_clause_at table e p q = option_map (with_sign true) (first_fitting table (record { state = p; set = q ∷ [] }) as_positive e)

-- the negative one, that is true at q and false at p
abbrev pub negative_clause_at : Table → Price → ℕ → ℕ → Option ClauseNeed
negative_clause_at table e p q = if q == p then None else option_map (with_sign false) (first_fitting table (record { state = q; set = p ∷ [] }) as_negative e)

-- ---- splits
-- the first split of the pair that fits the price
abbrev pub first_split_at : Table → Pair → Price → Option Choice
first_split_at table x e = first_made (split_choice table x.state e) (divisions x.set)

-- the split by the clauses
abbrev pub split_at : List Pair → List (List Price) → List SignedKey → Choice
split_at pairs rows clauses = by_split (map (clause_at pairs rows) clauses)
