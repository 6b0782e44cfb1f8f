-- What a solver has after each generation.
use Rattle.std.specs.Prelude.{ℕ, zero, suc, ◌≡◌, ◌+◌, Bool, List, map, count_by}
use Rattle.spectro_spec.specs.System.{System}
use Rattle.spectro_spec.specs.Weighing.{Weighing}
use Rattle.spectro_game.specs.Pairs.{Pair}
use Rattle.spectro_game.specs.Rows.{generation_rows}
use Rattle.spectro_game.specs.Marks.{is_marked}
use Rattle.spectro_pairs.specs.Explored.{Explored, IsExploredFrom}
use Rattle.spectro_solve.specs.Counts.{changing_generations_to}
use Rattle.spectro_solve.specs.Tables.{Solved}

-- the arena was explored from the system
abbrev pub IsArenaOf : System → Explored → Type 0
IsArenaOf system explored = (weighing : Weighing) × (starts : List (ℕ × ℕ)) × IsExploredFrom system weighing starts explored

-- it was explored from some system
abbrev pub IsExplored : Explored → Type 0
IsExplored explored = (system : System) × IsArenaOf system explored

-- how many pairs the first n generations evaluate
unfoldable pub evaluations_before : Weighing → System → List Pair → ℕ → ℕ
evaluations_before weighing system pairs zero = 0
evaluations_before weighing system pairs (suc k) = evaluations_before weighing system pairs k + count_by (is_marked weighing system k) pairs

-- the table is that of n generations, and the marks are those of the next one
pub record IsAfter (weighing : Weighing) (system : System) (pairs : List Pair) (n : ℕ) (table : Solved) (flags : List Bool) : Type 0 where
  pub rows : table.rows ≡ generation_rows weighing system pairs n
  pub marks : flags ≡ map (is_marked weighing system n) pairs
  pub generations : table.generations ≡ changing_generations_to weighing system pairs n
  pub evaluations : table.evaluations ≡ evaluations_before weighing system pairs n

-- the new table and marks are one generation further than the old ones
abbrev pub GoesOn : Weighing → System → List Pair → Solved → List Bool → Solved → List Bool → Type 0
GoesOn weighing system pairs old flags new more = (n : ℕ) → IsAfter weighing system pairs n old flags → IsAfter weighing system pairs (suc n) new more
