-- The sheet in which each occurrence of a formula is a node: how long it is, that its clauses rise, and what its nodes unfold to.
use Rattle.std.proofs.Common.{◌≡◌, ◌∙◌, inl, ℕ, ◌+◌, ◌<◌, true, false, List, [], ◌∷◌, ◌++◌, length, refl, sym, ap, arith, append_assoc, length-append}
use Rattle.std.specs.Prelude.{All}
use Rattle.std.proofs.lemmas.List.{get_or_at}
use Rattle.std.proofs.lemmas.List.Elements.{All-nil, All-cons, All-weaker}
use Rattle.spectro_spec.specs.Formula.{Formula, Clauses, see, all, no_clauses, plus, minus}
use Rattle.spectro_hml.specs.declared.node.Clause.{Clause}
use Rattle.spectro_hml.specs.Clauses.{ClausesRise}
use Rattle.spectro_hml.specs.Sheets.{SheetNode, see_node, all_node, formula_at, clauses_of, formula_of_node, formulas_of, unfolded}
use Rattle.spectro_hml.proofs.Unfoldings.{length-formulas_of, formulas_of-push, unfolded-push, clauses_of-plus, clauses_of-minus}
use Rattle.spectro_hmltext.specs.Numbering.{size, size_of_clauses, number_of, numbered, nodes_of, nodes_of_clauses}

-- ---- as many nodes as formulas
mutual
  pub length-nodes_of : (formula : Formula) (before : ℕ) → length (nodes_of before formula) ≡ size formula
  length-nodes_of (see label formula) before = omega
      (arith, length-append (nodes_of before formula) (see_node label (number_of before formula) ∷ []), length-nodes_of formula before)
  length-nodes_of (all clauses) before = omega
      (arith, length-append (nodes_of_clauses before clauses) (all_node (numbered before clauses) ∷ []), length-nodes_of_clauses clauses before)

  pub length-nodes_of_clauses : (clauses : Clauses) (before : ℕ) → length (nodes_of_clauses before clauses) ≡ size_of_clauses clauses
  length-nodes_of_clauses no_clauses before = refl
  length-nodes_of_clauses (plus formula clauses) before =
      omega (
        arith,
        length-append (nodes_of before formula)
            (nodes_of_clauses (before + size formula) clauses),
        length-nodes_of formula before,
        length-nodes_of_clauses clauses (before + size formula),
      )
  length-nodes_of_clauses (minus formula clauses) before =
      omega (
        arith,
        length-append (nodes_of before formula)
            (nodes_of_clauses (before + size formula) clauses),
        length-nodes_of formula before,
        length-nodes_of_clauses clauses (before + size formula),
      )

pub some-size : (formula : Formula) → 0 < size formula
some-size (see label formula) = omega arith
some-size (all _) = omega arith

-- ---- clauses behind others
abbrev pub with_clauses : Clauses → Clauses → Clauses
with_clauses no_clauses others = others
with_clauses (plus formula clauses) others = plus formula (with_clauses clauses others)
with_clauses (minus formula clauses) others = minus formula (with_clauses clauses others)

pub with_clauses-assoc : (front middle back : Clauses) → with_clauses (with_clauses front middle) back ≡ with_clauses front (with_clauses middle back)
with_clauses-assoc no_clauses middle back = refl
with_clauses-assoc (plus formula front) middle back = ap (plus formula) (with_clauses-assoc front middle back)
with_clauses-assoc (minus formula front) middle back = ap (minus formula) (with_clauses-assoc front middle back)

pub numbered-with_clauses : (front back : Clauses) (before : ℕ)
    → numbered before (with_clauses front back) ≡ numbered before front ++ numbered (before + size_of_clauses front) back
numbered-with_clauses no_clauses back before = let place : before ≡ before + 0 = omega arith in ap (λ n. numbered n back) place
numbered-with_clauses (plus formula front) back before =
    let place : (before + size formula) + size_of_clauses front ≡ before + (size formula + size_of_clauses front) = omega arith in
    ap (λ list. record { positive = true; node = number_of before formula } ∷ list) (numbered-with_clauses front back (before + size formula)
    ∙ ap (λ n. numbered (before + size formula) front ++ numbered n back) place)
numbered-with_clauses (minus formula front) back before =
    let place : (before + size formula) + size_of_clauses front ≡ before + (size formula + size_of_clauses front) = omega arith in
    ap (λ list. record { positive = false; node = number_of before formula } ∷ list) (numbered-with_clauses front back (before + size formula)
    ∙ ap (λ n. numbered (before + size formula) front ++ numbered n back) place)

pub nodes_of-with_clauses : (front back : Clauses) (before : ℕ)
    → nodes_of_clauses before (with_clauses front back) ≡ nodes_of_clauses before front ++ nodes_of_clauses (before + size_of_clauses front) back
nodes_of-with_clauses no_clauses back before = let place : before ≡ before + 0 = omega arith in ap (λ n. nodes_of_clauses n back) place
nodes_of-with_clauses (plus formula front) back before =
    let place : (before + size formula) + size_of_clauses front ≡ before + (size formula + size_of_clauses front) = omega arith in
    ap (λ nodes. nodes_of before formula ++ nodes) (nodes_of-with_clauses front back (before + size formula)
    ∙ ap (λ n. nodes_of_clauses (before + size formula) front ++ nodes_of_clauses n back) place)
    ∙ sym (append_assoc (nodes_of before formula) (nodes_of_clauses (before + size formula) front)
    (nodes_of_clauses (before + (size formula + size_of_clauses front)) back))
nodes_of-with_clauses (minus formula front) back before =
    let place : (before + size formula) + size_of_clauses front ≡ before + (size formula + size_of_clauses front) = omega arith in
    ap (λ nodes. nodes_of before formula ++ nodes) (nodes_of-with_clauses front back (before + size formula)
    ∙ ap (λ n. nodes_of_clauses (before + size formula) front ++ nodes_of_clauses n back) place)
    ∙ sym (append_assoc (nodes_of before formula) (nodes_of_clauses (before + size formula) front)
    (nodes_of_clauses (before + (size formula + size_of_clauses front)) back))

-- ---- the clauses by number
pub All-numbered : (clauses : Clauses) (before : ℕ) → All (λ clause. clause.node < before + size_of_clauses clauses) (numbered before clauses)
All-numbered no_clauses before = All-nil (λ clause. clause.node < before + 0)
All-numbered (plus formula clauses) before =
    All-cons (λ clause. clause.node < before + (size formula + size_of_clauses clauses)) _ (numbered (before + size formula) clauses)
    (omega (arith, some-size formula))
    (All-weaker (λ clause. clause.node < (before + size formula) + size_of_clauses clauses)
    (λ clause. clause.node < before + (size formula + size_of_clauses clauses)) (λ clause below. omega (arith, below))
    (numbered (before + size formula) clauses) (All-numbered clauses (before + size formula)))
All-numbered (minus formula clauses) before =
    All-cons (λ clause. clause.node < before + (size formula + size_of_clauses clauses)) _ (numbered (before + size formula) clauses)
    (omega (arith, some-size formula))
    (All-weaker (λ clause. clause.node < (before + size formula) + size_of_clauses clauses)
    (λ clause. clause.node < before + (size formula + size_of_clauses clauses)) (λ clause below. omega (arith, below))
    (numbered (before + size formula) clauses) (All-numbered clauses (before + size formula)))

-- they rise, also behind a clause whose node is before theirs
rise-behind : (clauses : Clauses) (before : ℕ) (first : Clause) → first.node < before → ClausesRise (first ∷ numbered before clauses)
rise-behind no_clauses before first below = tt
rise-behind (plus formula clauses) before first below = (
  inl (omega (arith, some-size formula)),
  rise-behind clauses (before + size formula) (record { positive = true; node = number_of before formula })
      (omega (arith, some-size formula)),
)
rise-behind (minus formula clauses) before first below = (
  inl (omega (arith, some-size formula)),
  rise-behind clauses (before + size formula) (record { positive = false; node = number_of before formula })
      (omega (arith, some-size formula)),
)

pub ClausesRise-numbered : (clauses : Clauses) (before : ℕ) → ClausesRise (numbered before clauses)
ClausesRise-numbered no_clauses before = tt
ClausesRise-numbered (plus formula clauses) before = rise-behind clauses (before + size formula)
    (record { positive = true; node = number_of before formula }) (omega (arith, some-size formula))
ClausesRise-numbered (minus formula clauses) before = rise-behind clauses (before + size formula)
    (record { positive = false; node = number_of before formula }) (omega (arith, some-size formula))

-- ---- what the nodes unfold to
-- a node behind others
module _ (nodes : List SheetNode) (node : SheetNode) where
  unfolded_last : (k : ℕ) → length nodes ≡ k → unfolded (nodes ++ node ∷ []) k ≡ formula_of_node (formulas_of nodes) node
  unfolded_last k place =
      ap (λ formulas. formula_at formulas k) (formulas_of-push nodes node)
      ∙ get_or_at (formulas_of nodes) (formula_of_node (formulas_of nodes) node) [] (all no_clauses) k (length-formulas_of nodes ∙ place)

mutual
  -- behind any others, the node of a formula unfolds to it
  pub unfolded-nodes_of : (formula : Formula) (before : ℕ) (front : List SheetNode) → length front ≡ before
      → unfolded (front ++ nodes_of before formula) (number_of before formula) ≡ formula
  unfolded-nodes_of (see label formula) before front long =
      let nodes : List SheetNode = front ++ nodes_of before formula in
      let place : length nodes ≡ number_of before (see label formula) = omega
      (arith, length-append front (nodes_of before formula), length-nodes_of formula before, long) in
      ap (λ nodes. unfolded nodes (number_of before (see label formula)))
      (sym (append_assoc front (nodes_of before formula) (see_node label (number_of before formula) ∷ [])))
      ∙ unfolded_last nodes (see_node label (number_of before formula)) (number_of before (see label formula)) place
      ∙ ap (see label) (unfolded-nodes_of formula before front long)
  unfolded-nodes_of (all clauses) before front long =
      let nodes : List SheetNode = front ++ nodes_of_clauses before clauses in
      let place : length nodes ≡ number_of before (all clauses) = omega
      (arith, length-append front (nodes_of_clauses before clauses), length-nodes_of_clauses clauses before, long) in
      ap (λ nodes. unfolded nodes (number_of before (all clauses)))
      (sym (append_assoc front (nodes_of_clauses before clauses) (all_node (numbered before clauses) ∷ [])))
      ∙ unfolded_last nodes (all_node (numbered before clauses)) (number_of before (all clauses)) place
      ∙ ap all (clauses_of-numbered clauses before front long)

  clauses_of-numbered : (clauses : Clauses) (before : ℕ) (front : List SheetNode) → length front ≡ before
      → clauses_of (formulas_of (front ++ nodes_of_clauses before clauses)) (numbered before clauses) ≡ clauses
  clauses_of-numbered no_clauses before front long = refl
  clauses_of-numbered (plus formula clauses) before front long =
      let nodes : List SheetNode = front ++ nodes_of before formula in
      let more : List SheetNode = nodes_of_clauses (before + size formula) clauses in
      let later : length nodes ≡ before + size formula = omega (arith, length-append front (nodes_of before formula), length-nodes_of formula before, long) in
      let within : number_of before formula < length nodes = omega (arith, later, some-size formula) in
      let first : unfolded (nodes ++ more) (number_of before formula) ≡ formula = unfolded-push nodes more (number_of before formula) within
      ∙ unfolded-nodes_of formula before front long in
      ap (λ nodes. clauses_of (formulas_of nodes) (numbered before (plus formula clauses))) (sym (append_assoc front (nodes_of before formula) more))
      ∙ clauses_of-plus (nodes ++ more) (record { positive = true; node = number_of before formula }) (numbered (before + size formula) clauses) refl
      ∙ ap (λ one. plus one (clauses_of (formulas_of (nodes ++ more)) (numbered (before + size formula) clauses))) first
      ∙ ap (plus formula) (clauses_of-numbered clauses (before + size formula) nodes later)
  clauses_of-numbered (minus formula clauses) before front long =
      let nodes : List SheetNode = front ++ nodes_of before formula in
      let more : List SheetNode = nodes_of_clauses (before + size formula) clauses in
      let later : length nodes ≡ before + size formula = omega (arith, length-append front (nodes_of before formula), length-nodes_of formula before, long) in
      let within : number_of before formula < length nodes = omega (arith, later, some-size formula) in
      let first : unfolded (nodes ++ more) (number_of before formula) ≡ formula = unfolded-push nodes more (number_of before formula) within
      ∙ unfolded-nodes_of formula before front long in
      ap (λ nodes. clauses_of (formulas_of nodes) (numbered before (minus formula clauses))) (sym (append_assoc front (nodes_of before formula) more))
      ∙ clauses_of-minus (nodes ++ more) (record { positive = false; node = number_of before formula }) (numbered (before + size formula) clauses) refl
      ∙ ap (λ one. minus one (clauses_of (formulas_of (nodes ++ more)) (numbered (before + size formula) clauses))) first
      ∙ ap (minus formula) (clauses_of-numbered clauses (before + size formula) nodes later)
