-- Rows by the places of their ends: a row by number, one more number, one more end.
use Rattle.std.proofs.Common.{ℕ, zero, suc, ◌+◌, ◌-◌, ◌<◌, ◌≤◌, ◌≡◌, List, [], ◌∷◌, ◌++◌, length, get_or, take, drop, slice_get, Some, refl, ap, ◌∙◌, arith, length-append, length-drop}
use Rattle.std.specs.List.{sum_by}
use Rattle.std.proofs.lemmas.List.{take-append-le, drop-append-le, drop_all, take_all, length-take-le}
use Rattle.std.proofs.lemmas.List.Sums.{sum_by-cons}
use Rattle.spectro_rows.specs.Rows.{RowList, rows_of, rows_to, start_of, last_after, AreEnds}

pub start_of-first : (from : ℕ) (ends : List ℕ) (k : ℕ) → k ≡ 0 → start_of from ends k ≡ from
unfolding start_of
start_of-first from ends zero e = refl
start_of-first from ends (suc k) e = absurd (omega arith)

pub start_of-later : (from : ℕ) (ends : List ℕ) (k before : ℕ) → before + 1 ≡ k → before < length ends → start_of from ends k ≡ get_or ends before 0
unfolding start_of
start_of-later from [] k before e below = absurd (omega arith)
start_of-later from (end ∷ ends) zero before e below = absurd (omega arith)
start_of-later from (end ∷ ends) (suc zero) zero e below = refl
start_of-later from (end ∷ ends) (suc (suc k)) zero e below = absurd (omega arith)
start_of-later from (end ∷ ends) (suc zero) (suc before) e below = absurd (omega arith)
start_of-later from (end ∷ ends) (suc (suc k)) (suc before) e below = start_of-later end ends (suc k) before (omega arith) (omega arith)

pub length-rows_to : {T : Type 0} (from : ℕ) (ends : List ℕ) (items : List T) → length (rows_to from ends items) ≡ length ends
unfolding rows_to
length-rows_to from [] items = refl
length-rows_to from (end ∷ ends) items = ap suc (length-rows_to end ends items)

-- the row of the number
pub stands-rows_to : {T : Type 0} (from : ℕ) (ends : List ℕ) (items : List T) (k : ℕ) → k < length ends
    → slice_get (rows_to from ends items) k ≡ Some (take (get_or ends k 0 - start_of from ends k) (drop (start_of from ends k) items))
unfolding rows_to start_of
stands-rows_to from [] items k below = absurd (omega arith)
stands-rows_to from (end ∷ ends) items zero below = refl
stands-rows_to from (end ∷ ends) items (suc k) below = stands-rows_to end ends items k (omega arith)

-- the same, where the rows, the items and the ends of the row go by other names
pub row_read : {T : Type 0} (ends : List ℕ) (items flat : List T) (rows : List (List T)) (k from to : ℕ)
    → rows_to 0 ends items ≡ rows → k < length ends → from ≡ start_of 0 ends k → to ≡ get_or ends k 0 → flat ≡ items
    → slice_get rows k ≡ Some (take (to - from) (drop from flat))
row_read ends items flat rows k from to is below start end same =
    let stands = stands-rows_to 0 ends items k below in
    cc

-- the number of a row is that of an end
pub row_number_below : {T : Type 0} (ends : List ℕ) (items : List T) (rows : List (List T)) (k : ℕ) → rows_to 0 ends items ≡ rows → k < length rows
    → k < length ends
row_number_below ends items rows k is below = omega (arith, length-rows_to 0 ends items, ap length is)

from-within : {T : Type 0} (from : ℕ) (ends : List ℕ) (items : List T) → AreEnds from ends items → from ≤ length items
unfolding AreEnds
from-within from [] items here = here
from-within from (end ∷ ends) items (up, rest) = omega (arith, from-within end ends items rest)

-- a row begins before it ends, and ends within the items
pub row-within : {T : Type 0} (from : ℕ) (ends : List ℕ) (items : List T) (k : ℕ) → AreEnds from ends items → k < length ends
    → (start_of from ends k ≤ get_or ends k 0) × (get_or ends k 0 ≤ length items)
unfolding AreEnds start_of
row-within from [] items k are below = absurd (omega arith)
row-within from (end ∷ ends) items zero (up, rest) below = (up, from-within end ends items rest)
row-within from (end ∷ ends) items (suc k) (up, rest) below = row-within end ends items k rest (omega arith)

-- a row begins behind all the items of the rows before it
pub sum_by-rows_to : {T : Type 0} (from : ℕ) (ends : List ℕ) (items : List T) (k : ℕ) → AreEnds from ends items → k ≤ length ends
    → from + sum_by length (take k (rows_to from ends items)) ≡ start_of from ends k
unfolding AreEnds rows_to start_of
sum_by-rows_to from ends items zero are below = omega arith
sum_by-rows_to from [] items (suc k) are below = absurd (omega arith)
sum_by-rows_to from (end ∷ ends) items (suc k) (up, rest) below =
    let row = take (end - from) (drop from items) in
    let size : length row ≡ end - from = length-take-le (end - from) (drop from items)
    (omega (arith, length-drop from items, from-within end ends items rest)) in
    omega (arith, sum_by-cons length row (take k (rows_to end ends items)), size, up, sum_by-rows_to end ends items k rest (omega arith))

-- so the items up to where a row begins are those of the rows before it, and those up to its end are its own besides
pub items_before : {T : Type 0} (ends : List ℕ) (items : List T) (rows : List (List T)) (k : ℕ)
    → rows_to 0 ends items ≡ rows → AreEnds 0 ends items → k < length ends
    → (sum_by length (take k rows) ≡ start_of 0 ends k) × (sum_by length (take (k + 1) rows) ≡ get_or ends k 0)
items_before ends items rows k is are below =
    let start = sum_by-rows_to 0 ends items k are (omega arith) in
    let end = sum_by-rows_to 0 ends items (k + 1) are (omega arith) in
    let same = λ (n : ℕ). ap (λ rs. sum_by length (take n rs)) is in
    (omega (arith, start, same k), omega (arith, end, same (k + 1), start_of-later 0 ends (k + 1) k (omega arith) below))

-- ---- more items
pub ends-more : {T : Type 0} (from : ℕ) (ends : List ℕ) (items more : List T) → AreEnds from ends items → AreEnds from ends (items ++ more)
unfolding AreEnds
ends-more from [] items more here = omega (arith, length-append items more)
ends-more from (end ∷ ends) items more (up, rest) = (up, ends-more end ends items more rest)

rows_to-more : {T : Type 0} (from : ℕ) (ends : List ℕ) (items more : List T) → AreEnds from ends items
    → rows_to from ends (items ++ more) ≡ rows_to from ends items
unfolding AreEnds rows_to
rows_to-more from [] items more here = refl
rows_to-more from (end ∷ ends) items more (up, rest) =
    let within : end ≤ length items = from-within end ends items rest in
    let start : from ≤ length items = omega arith in
    let first : take (end - from) (drop from (items ++ more)) ≡ take (end - from) (drop from items) =
    ap (take (end - from)) (drop-append-le from items more start)
    ∙ take-append-le (end - from) (drop from items) more (omega (arith, length-drop from items)) in
    let later : rows_to end ends (items ++ more) ≡ rows_to end ends items = rows_to-more end ends items more rest in
    cc

last_after-more : {T : Type 0} (from : ℕ) (ends : List ℕ) (items more : List T) → AreEnds from ends items
    → last_after from ends (items ++ more) ≡ last_after from ends items ++ more
unfolding AreEnds last_after
last_after-more from [] items more here = drop-append-le from items more here
last_after-more from (end ∷ ends) items more (up, rest) = last_after-more end ends items more rest

-- ---- one end more, at the end of the items
pub ends-closed : {T : Type 0} (from : ℕ) (ends : List ℕ) (items : List T) → AreEnds from ends items → AreEnds from (ends ++ length items ∷ []) items
unfolding AreEnds
ends-closed from [] items here = (here, (omega arith))
ends-closed from (end ∷ ends) items (up, rest) = (up, ends-closed end ends items rest)

rows_to-closed : {T : Type 0} (from : ℕ) (ends : List ℕ) (items : List T)
    → rows_to from (ends ++ length items ∷ []) items ≡ rows_to from ends items ++ last_after from ends items ∷ []
unfolding rows_to last_after
rows_to-closed from [] items = ap (λ row. row ∷ []) (take_all (length items - from) (drop from items) (omega (arith, length-drop from items)))
rows_to-closed from (end ∷ ends) items = ap (λ rows. take (end - from) (drop from items) ∷ rows) (rows_to-closed end ends items)

last_after-closed : {T : Type 0} (from : ℕ) (ends : List ℕ) (items : List T) → last_after from (ends ++ length items ∷ []) items ≡ []
unfolding last_after
last_after-closed from [] items = drop_all (length items) items (omega arith)
last_after-closed from (end ∷ ends) items = last_after-closed end ends items

-- ---- the list of rows
pub rows_of-nil : {T : Type 0} (ends : List ℕ) (items : List T) → ends ≡ [] → items ≡ [] → rows_of ends items ≡ record { rows = []; last = [] }
unfolding rows_to last_after
rows_of-nil ends items none empty = ap (λ es. rows_of es items) none ∙ ap (rows_of []) empty

pub ends-nil : {T : Type 0} (ends : List ℕ) (items : List T) → ends ≡ [] → AreEnds 0 ends items
unfolding AreEnds
ends-nil [] items none = omega arith
ends-nil (end ∷ ends) items none = absurd cc

pub rows_of-more : {T : Type 0} (ends : List ℕ) (items new : List T) (item : T) (old : RowList T) → AreEnds 0 ends items → rows_of ends items ≡ old
    → new ≡ items ++ item ∷ []
    → rows_of ends new ≡ record { rows = old.rows; last = old.last ++ item ∷ [] }
rows_of-more ends items new item old are is more =
    let rows : rows_to 0 ends (items ++ item ∷ []) ≡ rows_to 0 ends items = rows_to-more 0 ends items (item ∷ []) are in
    let last : last_after 0 ends (items ++ item ∷ []) ≡ last_after 0 ends items ++ item ∷ [] = last_after-more 0 ends items (item ∷ []) are in
    ap (rows_of ends) more
    ∙ ap (λ r. record { rows = r; last = last_after 0 ends (items ++ item ∷ []) }) rows ∙ ap (λ l. record { rows = rows_to 0 ends items; last = l }) last
    ∙ ap (λ r. record { rows = r.rows; last = r.last ++ item ∷ [] }) is

pub rows_of-closed : {T : Type 0} (ends : List ℕ) (items : List T) (new : List ℕ) (old : RowList T) → rows_of ends items ≡ old → new ≡ ends ++ length items ∷ []
    → rows_of new items ≡ record { rows = old.rows ++ old.last ∷ []; last = [] }
rows_of-closed ends items new old is more =
    ap (λ es. rows_of es items) more
    ∙ ap (λ r. record { rows = r; last = last_after 0 (ends ++ length items ∷ []) items }) (rows_to-closed 0 ends items)
    ∙ ap (λ l. record { rows = rows_to 0 ends items ++ last_after 0 ends items ∷ []; last = l }) (last_after-closed 0 ends items)
    ∙ ap (λ r. record { rows = r.rows ++ r.last ∷ []; last = [] }) is

-- ends that do not fall and are within the items, by place
pub are_ends : {T : Type 0} (from : ℕ) (ends : List ℕ) (items : List T) → ((k : ℕ) → k < length ends → start_of from ends k ≤ get_or ends k 0)
    → start_of from ends (length ends) ≤ length items → AreEnds from ends items
unfolding AreEnds start_of
are_ends from [] items up last = last
are_ends from (end ∷ ends) items up last = (up 0 (omega arith), are_ends end ends items (λ k below. up (suc k) (omega arith)) last)

-- what is behind the last end begins there
pub last_after-is : {T : Type 0} (from : ℕ) (ends : List ℕ) (items : List T) → last_after from ends items ≡ drop (start_of from ends (length ends)) items
unfolding last_after start_of
last_after-is from [] items = refl
last_after-is from (end ∷ ends) items = last_after-is end ends items
