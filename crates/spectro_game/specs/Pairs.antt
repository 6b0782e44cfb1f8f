-- Pairs of a state and a set of states, and the pairs that follow one.
use Rattle.std.specs.Prelude.{ℕ, ◌+◌, ◌^◌, ◌==◌, not, List, [], ◌∷◌, ◌++◌, length, map, filter, drop, sum_by, Contains, if◌then◌else◌}
use Rattle.std.specs.List.{flat_map}
use Rattle.spectro_spec.specs.System.{Label, System, post}
use Rattle.spectro_spec.specs.LabelOrder.{labels_from}
use Rattle.spectro_game.specs.Divisions.{Division, divisions}
use Rattle.spectro_game.specs.Reached.{AreReached}

pub record Pair : Type 0 where
  pub state : ℕ
  pub set : List ℕ

-- after a step under the label, from the state and from the set at once, by rising target
abbrev pub observed_under : System → Pair → Label → List Pair
observed_under system x label = map (λ t. record { state = t; set = post system x.set label }) (post system (x.state ∷ []) label)

-- after a step, by label and then by target
abbrev pub observed : System → Pair → List Pair
observed system x = flat_map (observed_under system x) (labels_from system.steps x.state)

-- the state against each subset that is not empty, by rising mask
abbrev pub subsets : Pair → List Pair
subsets x = map (λ (d : Division). record { state = x.state; set = d.left }) (drop 1 (divisions x.set))

-- each other member against the state, in the order of the set
abbrev pub swaps : Pair → List Pair
swaps x = map (λ q. record { state = q; set = x.state ∷ [] }) (filter (λ q. not (q == x.state)) x.set)

-- the pairs that follow, in order
unfoldable pub followers : System → Pair → List Pair
followers system x = observed system x ++ (subsets x ++ swaps x)

-- the state and the set follow the others
abbrev pub IsFollower : System → ℕ → List ℕ → ℕ → List ℕ → Type 0
IsFollower system p qs p' qs' = Contains (followers system (record { state = p; set = qs })) (record { state = p'; set = qs' })

-- with each pair its followers are there
abbrev pub IsClosed : System → (ℕ → List ℕ → Type 0) → Type 0
IsClosed system known = (p : ℕ) (qs : List ℕ) (p' : ℕ) (qs' : List ℕ) → known p qs → IsFollower system p qs p' qs' → known p' qs'

-- the state and the set are one of the pairs
abbrev pub IsOneOf : List Pair → ℕ → List ℕ → Type 0
IsOneOf pairs p qs = Contains pairs (record { state = p; set = qs })

-- the pairs that the starts reach, in the order in which they are found
abbrev pub AreReachedPairs : System → List Pair → List Pair → Type 0
AreReachedPairs system starts pairs = AreReached (followers system) starts pairs

-- how many positions of the game the pair stands for
abbrev pub positions : Pair → ℕ
positions x = 1 + 2 ^ length x.set + (if length x.set == 1 then 1 else 0)

-- how many positions the game on these pairs has
abbrev pub size : List Pair → ℕ
size pairs = sum_by positions pairs
