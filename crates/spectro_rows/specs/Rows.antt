-- Rows that stand one behind the other in one list of items, each up to its end.
use Rattle.std.specs.Prelude.{ℕ, zero, suc, ◌-◌, ◌≤◌, List, [], ◌∷◌, length, take, drop, slice_index_or}

-- closed rows, and the open one behind them
pub record RowList (T : Type 0) : Type 0 where
  pub rows : List (List T)
  pub last : List T

-- the rows up to each of the ends, where the first begins at place from
unfoldable pub rows_to : {T : Type 0} → ℕ → List ℕ → List T → List (List T)
rows_to from [] items = []
rows_to from (end ∷ ends) items = take (end - from) (drop from items) ∷ rows_to end ends items

-- where the row of the number begins: at the end of the one before, and the first at place from
unfoldable pub start_of : ℕ → List ℕ → ℕ → ℕ
start_of from ends zero = from
start_of from [] (suc k) = from
start_of from (end ∷ ends) (suc k) = start_of end ends k

-- the items behind the last end
unfoldable pub last_after : {T : Type 0} → ℕ → List ℕ → List T → List T
last_after from [] items = drop from items
last_after from (end ∷ ends) items = last_after end ends items

-- the ends do not fall, and are within the items
unfoldable pub AreEnds : {T : Type 0} → ℕ → List ℕ → List T → Type 0
AreEnds from [] items = from ≤ length items
AreEnds from (end ∷ ends) items = (from ≤ end) × AreEnds end ends items

-- the rows up to the ends, and what is behind the last
abbrev pub rows_of : {T : Type 0} → List ℕ → List T → RowList T
rows_of ends items = record { rows = rows_to 0 ends items; last = last_after 0 ends items }

-- the row at the place; empty where there is none
abbrev pub row_at : {T : Type 0} → List (List T) → ℕ → List T
row_at rows k = slice_index_or rows k []
