-- What the nodes of a sheet unfold to, and that nodes which come later change nothing of it.
use Rattle.std.proofs.Common.{◌≡◌, ◌∙◌, ◌⊎◌, inl, inr, ℕ, ◌+◌, ◌<◌, ◌≤◌, suc, zero, true, false, List, [], ◌∷◌, ◌++◌, length, take, drop, take-append-drop, fold, slice_get, Some, refl, sym, ap, subst, arith}
use Rattle.std.specs.Prelude.{All}
use Rattle.std.proofs.lemmas.Bool.{cases_lt}
use Rattle.std.proofs.lemmas.List.{get_or_append_left, length_push, length-take-le}
use Rattle.std.proofs.lemmas.List.Elements.{All-head, All-tail}
use Rattle.std.proofs.lemmas.List.Sums.{fold_push, fold-append}
use Rattle.std.proofs.lemmas.Option.{slice_get_within, same_Some}
use Rattle.spectro_spec.specs.Formula.{Formula, all, no_clauses, plus, minus}
use Rattle.spectro_hml.specs.declared.node.Clause.{Clause}
use Rattle.spectro_hml.specs.Sheets.{SheetNode, IsNodeAt, IsSheet, formula_at, clauses_of, formula_of_node, formulas_of, unfolded}

-- ---- nodes one after the other
abbrev with_node : List Formula → SheetNode → List Formula
with_node formulas node = formulas ++ formula_of_node formulas node ∷ []

length-with_nodes : (formulas : List Formula) (nodes : List SheetNode) → length (fold with_node formulas nodes) ≡ length formulas + length nodes
length-with_nodes formulas [] = omega arith
length-with_nodes formulas (node ∷ nodes) =
    let longer = length_push formulas (formula_of_node formulas node) in
    omega (arith, length-with_nodes (with_node formulas node) nodes, longer)

-- each node has one formula
pub length-formulas_of : (nodes : List SheetNode) → length (formulas_of nodes) ≡ length nodes
length-formulas_of nodes = omega (arith, length-with_nodes [] nodes)

pub formulas_of-push : (nodes : List SheetNode) (node : SheetNode)
    → formulas_of (nodes ++ node ∷ []) ≡ formulas_of nodes ++ formula_of_node (formulas_of nodes) node ∷ []
formulas_of-push nodes node = fold_push with_node [] nodes node

kept-with_nodes : (formulas : List Formula) (more : List SheetNode) (k : ℕ) → k < length formulas
    → formula_at (fold with_node formulas more) k ≡ formula_at formulas k
kept-with_nodes formulas [] k within = refl
kept-with_nodes formulas (node ∷ more) k within =
    let longer = length_push formulas (formula_of_node formulas node) in
    kept-with_nodes (with_node formulas node) more k (omega arith) ∙ get_or_append_left formulas (formula_of_node formulas node ∷ []) (all no_clauses) k within

-- later nodes change no formula
pub unfolded-push : (nodes more : List SheetNode) (k : ℕ) → k < length nodes → unfolded (nodes ++ more) k ≡ unfolded nodes k
unfolded-push nodes more k within =
    let here : k < length (formulas_of nodes) = omega (arith, length-formulas_of nodes) in
    ap (λ formulas. formula_at formulas k) (fold-append with_node [] nodes more) ∙ kept-with_nodes (formulas_of nodes) more k here

-- ---- places
slice_get-front : (nodes more : List SheetNode) (place : ℕ) → place < length nodes → slice_get (nodes ++ more) place ≡ slice_get nodes place
slice_get-front [] more place within = absurd (omega arith)
slice_get-front (node ∷ nodes) more zero within = refl
slice_get-front (node ∷ nodes) more (suc place) within = slice_get-front nodes more place (omega arith)

slice_get-last : (nodes : List SheetNode) (node : SheetNode) → slice_get (nodes ++ node ∷ []) (length nodes) ≡ Some node
slice_get-last [] node = refl
slice_get-last (first ∷ nodes) node = slice_get-last nodes node

-- a sheet with a node more, which may stand at its end, is one
pub IsSheet-push : (nodes : List SheetNode) (node : SheetNode) → IsSheet nodes → IsNodeAt (length nodes) node → IsSheet (nodes ++ node ∷ [])
IsSheet-push nodes node sheet may = λ place other at. by place other at (cases_lt place (length nodes))
  where
    by : (place : ℕ) (other : SheetNode) → slice_get (nodes ++ node ∷ []) place ≡ Some other → (place < length nodes) ⊎ (length nodes ≤ place)
        → IsNodeAt place other
    by place other at (inl within) = sheet place other (sym (slice_get-front nodes (node ∷ []) place within) ∙ at)
    by place other at (inr past) =
        let last : length nodes ≡ place = omega (arith, slice_get_within (nodes ++ node ∷ []) place other at, length_push nodes node) in
        let same : node ≡ other = same_Some node other (sym (slice_get-last nodes node) ∙ ap (slice_get (nodes ++ node ∷ [])) last ∙ at) in
        subst (λ place. IsNodeAt place other) last (subst (IsNodeAt (length nodes)) same may)

-- ---- the clauses of a conjunction
-- clauses whose nodes have the same formulas are the same
pub clauses_of-agree : (one other : List Formula) (clauses : List Clause)
    → All (λ clause. formula_at one clause.node ≡ formula_at other clause.node) clauses → clauses_of one clauses ≡ clauses_of other clauses
clauses_of-agree one other [] same = refl
clauses_of-agree one other (clause ∷ clauses) same =
    let here = All-head (λ clause. formula_at one clause.node ≡ formula_at other clause.node) clause clauses same in
    let rest = clauses_of-agree one other clauses (All-tail (λ clause. formula_at one clause.node ≡ formula_at other clause.node) clause clauses same) in
    rw (here, rest) refl

pub clauses_of-plus : (nodes : List SheetNode) (clause : Clause) (clauses : List Clause) → clause.positive ≡ true
    → clauses_of (formulas_of nodes) (clause ∷ clauses) ≡ plus (unfolded nodes clause.node) (clauses_of (formulas_of nodes) clauses)
clauses_of-plus nodes clause clauses positive = rw positive refl

pub clauses_of-minus : (nodes : List SheetNode) (clause : Clause) (clauses : List Clause) → clause.positive ≡ false
    → clauses_of (formulas_of nodes) (clause ∷ clauses) ≡ minus (unfolded nodes clause.node) (clauses_of (formulas_of nodes) clauses)
clauses_of-minus nodes clause clauses negative = rw negative refl

-- the formulas before a node's place are enough
pub clause_formula : (nodes : List SheetNode) (k : ℕ) (clause : Clause) → k ≤ length nodes → clause.node < k
    → formula_at (formulas_of (take k nodes)) clause.node ≡ unfolded nodes clause.node
clause_formula nodes k clause within below =
    let here : clause.node < length (take k nodes) = omega (arith, below, length-take-le k nodes within) in
    sym (unfolded-push (take k nodes) (drop k nodes) clause.node here) ∙ ap (λ nodes. unfolded nodes clause.node) (take-append-drop k nodes)
