-- What is chosen of the lists of clauses of some members, and what the splits of a set make of it.
use Rattle.std.specs.Prelude.{ℕ, ◌≡◌, ◌≢◌, ◌-◌, ◌<◌, ◌^◌, ◌⊎◌, List, [], length}
use Rattle.std.specs.Int.{bit_at}
use Rattle.spectro_spec.specs.Price.{Price, IsAtMost}
use Rattle.spectro_spec.specs.LeastPrices.{Covers}
use Rattle.spectro_game.specs.Update.{conjoin, inverse, to_deepest}
use Rattle.spectro_game.specs.Divisions.{Division, divisions}
use Rattle.spectro_game.specs.Pairs.{Pair}
use Rattle.spectro_game.specs.Reached.{StandsAt}
use Rattle.spectro_game.specs.BackwardStep.{AffordsSplit}
use Rattle.spectro_game.specs.Generations.{Table, members_of}
use Rattle.spectro_rows.specs.Rows.{row_at}
use Rattle.spectro_solve.specs.Added.{CanBeConjoined, IsMadeBy}

-- the list of each member whose bit is set covers b
abbrev pub AreCovered : List (List Price) → ℕ → Price → Type 0
AreCovered clauses mask b = (i : ℕ) → bit_at mask i ≡ 1 → Covers (row_at clauses i) b

-- the list covers what these lists cover together, but for what is of no use: what a conjunction makes of it is made already
pub record IsChosenFor (clauses : List (List Price)) (made : List Price) (mask : ℕ) (list : List Price) : Type 0 where
  pub sound : (b : Price) → Covers list b → AreCovered clauses mask b
  pub whole : (b : Price) → AreCovered clauses mask b → Covers list b ⊎ Covers made (inverse conjoin b)
  pub low : CanBeConjoined list

-- so does each list up to the mask
abbrev pub AreChosenTo : List (List Price) → List Price → ℕ → List (List Price) → Type 0
AreChosenTo clauses made n chosen = (mask : ℕ) → mask < n → IsChosenFor clauses made mask (row_at chosen mask)

-- one clause refutes all members whose bits are set at the price b, where there is one
abbrev pub AffordsLeft : Table → Pair → ℕ → Price → Type 0
AffordsLeft table x mask b = (d : Division) × StandsAt (divisions x.set) mask d × (d.left ≢ [] → IsMadeBy to_deepest (table x.state d.left) b)

-- a conjunction costs at most e whose clauses refute these members by one, and the others at what the list covers
abbrev pub AffordsBy : Table → Pair → ℕ → List Price → Price → Type 0
AffordsBy table x mask chosen e = (b : Price) × Covers chosen b × AffordsLeft table x mask b × IsAtMost (inverse conjoin b) e

-- the mask of all other members
abbrev pub others : Pair → ℕ → ℕ
others x mask = 2 ^ length x.set - 1 - mask

-- the members of the mask are refuted each by a clause of its own, and all others by one, in a conjunction that costs at most e
abbrev pub AffordsMask : Table → Pair → List (List Price) → ℕ → Price → Type 0
AffordsMask table x clauses mask e = (b : Price) × AreCovered clauses mask b × AffordsLeft table x (others x mask) b × IsAtMost (inverse conjoin b) e

-- so are those of one of the first n masks
abbrev pub AffordsSplitAmong : Table → Pair → List (List Price) → ℕ → Price → Type 0
AffordsSplitAmong table x clauses n e = (mask : ℕ) × (mask < n) × AffordsMask table x clauses mask e

-- a conjunction that the table affords costs at most e
abbrev pub AffordsConjunction : Table → Pair → Price → Type 0
AffordsConjunction table x e = (b : Price) × AffordsSplit (members_of table) x.state x.set b × IsAtMost (inverse conjoin b) e
