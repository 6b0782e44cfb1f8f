-- What is put into a list of energies, said of what the list covers.
use Rattle.std.specs.Prelude.{◌≡◌, ◌↔◌, ◌⊎◌, ◌+◌, ◌<◌, ◌^◌, List, Contains}
use Rattle.spectro_spec.specs.Price.{Price, IsAtMost}
use Rattle.spectro_spec.specs.LeastPrices.{Covers}
use Rattle.spectro_game.specs.Sup.{sup}
use Rattle.spectro_game.specs.Update.{Update, inverse, conjoin, to_deepest, to_other}

-- the new list covers what the old one does, and what is made
abbrev pub IsAdded : (Price → Type 0) → List Price → List Price → Type 0
IsAdded Made old new = (e : Price) → Covers new e ↔ Covers old e ⊎ Made e

-- what the old list covers is covered by the new one
abbrev pub Grows : List Price → List Price → Type 0
Grows old new = (e : Price) → Covers old e → Covers new e

-- what the update makes of some price of the list is at most e
abbrev pub IsMadeBy : Update → List Price → Price → Type 0
IsMadeBy update es e = (f : Price) × Contains es f × IsAtMost (inverse update f) e

-- what a clause of this sign makes of some price of the list is at most e
abbrev pub IsClauseBy : Update → List Price → Price → Type 0
IsClauseBy sign es e = (f : Price) × Contains es f × IsAtMost (inverse to_other (inverse sign f)) e

-- a conjunction costs at most e whose clauses for some states are covered by the first list, and whose clause for all others is of the second
abbrev pub IsJoinedBy : List Price → List Price → Price → Type 0
IsJoinedBy chosen es e = (b : Price) × Covers chosen b × IsMadeBy to_deepest es b × IsAtMost (inverse conjoin b) e

-- the new list covers what the old one does, and no more than that and what is made
pub record AreSomeAdded (Made : Price → Type 0) (old new : List Price) : Type 0 where
  pub sound : (e : Price) → Covers new e → Covers old e ⊎ Made e
  pub kept : Grows old new

-- the new list covers what the old one does and what is wanted, but for what is of no use: what a conjunction makes of it is made already
pub record AreChosen (Wanted : Price → Type 0) (made old new : List Price) : Type 0 where
  pub sound : (e : Price) → Covers new e → Covers old e ⊎ Wanted e
  pub kept : (e : Price) → Covers old e → Covers new e
  pub whole : (e : Price) → Wanted e → Covers new e ⊎ Covers made (inverse conjoin e)

-- a conjunction over each price of the list costs a number of 32 bits
abbrev pub CanBeConjoined : List Price → Type 0
CanBeConjoined es = (e : Price) → Contains es e → e.conjunctions + 1 < 2 ^ 32

-- a member of the new list is one of the old list or one that is made
abbrev pub AreOf : (Price → Type 0) → List Price → List Price → Type 0
AreOf Made old new = (e : Price) → Contains new e → Contains old e ⊎ Made e

-- what a clause of this sign makes of some price of the list
abbrev pub IsClauseOf : Update → List Price → Price → Type 0
IsClauseOf sign es e = (f : Price) × Contains es f × (inverse to_other (inverse sign f) ≡ e)

-- a conjunction of b and of a clause over some price of the list is at most e
abbrev pub IsJoinedWith : Price → List Price → Price → Type 0
IsJoinedWith b es e = (f : Price) × Contains es f × IsAtMost (inverse conjoin (sup b (inverse to_deepest f))) e

-- both lists cover e
abbrev pub IsCoveredByBoth : List Price → List Price → Price → Type 0
IsCoveredByBoth es fs e = Covers es e × Covers fs e

-- b is at most e, and the list covers it
abbrev pub IsCoveredWith : Price → List Price → Price → Type 0
IsCoveredWith b es e = IsAtMost b e × Covers es e
