-- Splits by masks: the clauses of the members of a set, and those that a split takes.
use Rattle.std.specs.Prelude.{ℕ, ◌≡◌, ◌==◌, ◌/◌, ◌%◌, List, [], ◌∷◌, ◌++◌, Option, None, Some, IfSome, All, true, map, slice_get, if◌then◌else◌}
use Rattle.std.specs.Option.{option_map}
use Rattle.std.specs.Int.{bit_at}
use Rattle.spectro_spec.specs.Price.{Price}
use Rattle.spectro_game.specs.Rows.{listed_at}
use Rattle.spectro_pairs.specs.Explored.{Explored}
use Rattle.spectro_solve.specs.Evaluations.{AtPair}
use Rattle.spectro_build.specs.Choices.{right_clause}
use Rattle.spectro_build.specs.Chosen.{clause_at}
use Rattle.spectro_build.specs.Keys.{IsKey}
use Rattle.spectro_build.specs.declared.clauses.SignedKey.{SignedKey}
use Rattle.spectro_build.specs.declared.key.Key.{Key}
use Rattle.spectro_build.specs.declared.splitting.Split.{Split}

-- for each member of the set of pair k the clause that refutes it alone, where one fits the price
abbrev pub AreRightClauses : Explored → List (List Price) → ℕ → Price → List (Option SignedKey) → Type 0
AreRightClauses explored rows k e others = AtPair explored k
    (λ system weighing x. map (right_clause (listed_at explored.pairs rows) x.state e) x.set ≡ map (option_map (clause_at explored.pairs rows)) others)

-- the key of each of them is one of a listed price
abbrev pub AreKeyed : List (List Price) → List (Option SignedKey) → Type 0
AreKeyed rows others = All (λ other. IfSome other (λ (clause : SignedKey). IsKey rows clause.key)) others

-- some member that is not in the mask has no clause
abbrev pub Lacks : List (Option SignedKey) → ℕ → Type 0
Lacks others mask = (i : ℕ) × (slice_get others i ≡ Some None) × (bit_at mask i ≡ 0)

-- the value, where there is one
abbrev pub option_list : {X : Type 0} → Option X → List X
option_list None = []
option_list (Some x) = x ∷ []

-- the clauses of the members that are not in the mask, in order
unfoldable pub clauses_outside : ℕ → List (Option SignedKey) → List SignedKey
clauses_outside mask [] = []
clauses_outside mask (other ∷ others) = (if mask % 2 == 1 then [] else option_list other) ++ clauses_outside (mask / 2) others

-- that of one member: none where its bit is set
abbrev pub clause_outside : ℕ → ℕ → Option SignedKey → List SignedKey
clause_outside mask i other = if bit_at mask i == 1 then [] else option_list other

-- the clause that refutes the left part, where there is one
abbrev pub left_clauses : Option Key → List SignedKey
left_clauses None = []
left_clauses (Some key) = record { positive = true; key = key } ∷ []

-- that clause, and those of the members that are not in the mask
abbrev pub clauses_of_split : List (Option SignedKey) → Split → List SignedKey
clauses_of_split others split = left_clauses split.left ++ clauses_outside split.mask others
