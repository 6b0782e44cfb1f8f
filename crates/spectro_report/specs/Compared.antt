-- What is compared: the initial states of two systems that stand side by side.
use Rattle.std.specs.Prelude.{ℕ, ◌+◌, List, [], ◌∷◌}
use Rattle.spectro_spec.specs.System.{System, join}
use Rattle.spectro_game.specs.Pairs.{Pair, AreReachedPairs}

-- the initial state of the right, whose states follow those of the left
abbrev pub initial_of_right : System → System → ℕ
initial_of_right left right = left.states + right.initial

-- the initial state of the left is to be told from that of the right
abbrev pub forth_pair : System → System → Pair
forth_pair left right = record { state = left.initial; set = initial_of_right left right ∷ [] }

-- the initial state of the right is to be told from that of the left
abbrev pub back_pair : System → System → Pair
back_pair left right = record { state = initial_of_right left right; set = left.initial ∷ [] }

-- the pairs that the comparison reaches, in the order in which they are found
abbrev pub AreCompared : System → System → List Pair → Type 0
AreCompared left right pairs = AreReachedPairs (join left right) (forth_pair left right ∷ []) pairs
