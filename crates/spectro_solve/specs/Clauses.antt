-- Lists of what the clauses of a conjunction cost.
use Rattle.std.specs.Prelude.{ℕ, ◌<◌, ◌≢◌, ◌↔◌, List, [], ◌∷◌}
use Rattle.spectro_spec.specs.Price.{Price}
use Rattle.spectro_spec.specs.LeastPrices.{Covers}
use Rattle.spectro_game.specs.Update.{to_positive, to_negative}
use Rattle.spectro_game.specs.Pairs.{Pair}
use Rattle.spectro_game.specs.Reached.{StandsAt}
use Rattle.spectro_game.specs.BackwardStep.{AffordsClause}
use Rattle.spectro_game.specs.Generations.{Table, members_of}
use Rattle.spectro_rows.specs.Rows.{row_at}
use Rattle.spectro_solve.specs.Added.{IsClauseBy}

-- a positive clause that is true at the state of the pair and false at the member of its set at the place costs at most e
abbrev pub AffordsPositive : Table → Pair → ℕ → Price → Type 0
AffordsPositive table x i e = (q : ℕ) × StandsAt x.set i q × IsClauseBy to_positive (table x.state (q ∷ [])) e

-- so does a negative one, that is true at the member and false at the state
abbrev pub AffordsNegative : Table → Pair → ℕ → Price → Type 0
AffordsNegative table x i e = (q : ℕ) × StandsAt x.set i q × (x.state ≢ q) × IsClauseBy to_negative (table q (x.state ∷ [])) e

-- the list covers just what a clause costs that tells the state of the pair from the member of its set at the place
abbrev pub IsClauseList : Table → Pair → ℕ → List Price → Type 0
IsClauseList table x i list = (q : ℕ) → StandsAt x.set i q → (e : Price) → Covers list e ↔ AffordsClause (members_of table) x.state q e

-- so does each list up to the place
abbrev pub AreClauseLists : Table → Pair → ℕ → List (List Price) → Type 0
AreClauseLists table x n lists = (i : ℕ) → i < n → IsClauseList table x i (row_at lists i)
