-- The order of the clauses of a conjunction.
use Rattle.std.specs.Prelude.{◌≡◌, ◌<◌, ◌⊎◌, ◌↔◌, true, false, List, [], ◌∷◌}
use Rattle.std.specs.Ordering.{nat_cmp, bool_cmp, on, flip_args, then_cmp}
use Rattle.std.specs.declared.cmp.Ordering.{Ordering}
use Rattle.std.specs.declared.cmp.Ordering.TheVariants.{Less}
use Rattle.spectro_hml.specs.declared.node.Clause.{Clause}

-- by node, and for one node the positive clause comes first
abbrev pub IsBeforeClause : Clause → Clause → Type 0
IsBeforeClause first second = (first.node < second.node) ⊎ ((first.node ≡ second.node) × (first.positive ≡ true) × (second.positive ≡ false))

-- the clauses rise strictly
abbrev pub ClausesRise : List Clause → Type 0
ClausesRise [] = Unit {0}
ClausesRise (clause ∷ []) = Unit {0}
ClausesRise (clause ∷ next ∷ clauses) = IsBeforeClause clause next × ClausesRise (next ∷ clauses)

-- what comparing two clauses answers: their nodes are compared, and then their signs, the positive one first
abbrev pub clause_order : Clause → Clause → Ordering
clause_order = then_cmp (on (λ (clause : Clause). clause.node) nat_cmp) (flip_args (on (λ (clause : Clause). clause.positive) bool_cmp))

-- it is less exactly where the first clause comes before the second
abbrev pub ClausesComeInOrder : Type 0
ClausesComeInOrder = (first second : Clause) → (clause_order first second ≡ Less) ↔ IsBeforeClause first second
