-- The text of a sheet in the pieces in which it is written.
use Rattle.std.proofs.Common.{◌≡◌, ◌∙◌, ℕ, ◌+◌, ◌<◌, List, [], ◌∷◌, ◌++◌, length, take, drop, get_or, sym, ap, arith, append_assoc, append-nil, take-append-drop}
use Rattle.std.specs.Prelude.{slice_get, Some, codes}
use Rattle.std.specs.Fmt.{decimal}
use Rattle.std.specs.List.{flat_map}
use Rattle.std.proofs.lemmas.List.{take_more, length-take-le}
use Rattle.std.proofs.lemmas.Option.{slice_get_within, get_or_from_slice_get}
use Rattle.spectro_io.proofs.Rows.{row-stopped}
use Rattle.spectro_spec.specs.System.{Label}
use Rattle.spectro_hml.specs.declared.node.Clause.{Clause}
use Rattle.spectro_hml.specs.Sheets.{SheetNode, see_node, all_node}
use Rattle.spectro_hmltext.specs.Printed.{label_text}
use Rattle.spectro_hmltext.specs.SheetTexts.{clause_text, node_text, nodes_text, sheet_text}

six-pieces : (held a b c d e f : List ℕ) → held ++ (a ++ b ++ c ++ d ++ e ++ f) ≡ ((held ++ (a ++ (b ++ []))) ++ c) ++ (d ++ (e ++ (f ++ [])))
six-pieces held a b c d e f = simp (append_assoc, append-nil)

-- the line of an observation behind what is held, in the pieces in which it is put
pub observation-pieces : (held : List ℕ) (number : ℕ) (label : Label) (next : ℕ)
    → held ++ node_text number (see_node label next) ≡ ((held ++ (decimal number ++ (codes " see " ++ []))) ++ label_text label) ++
    (codes " " ++ (decimal next ++ (codes "\n" ++ [])))
observation-pieces held number label next = six-pieces held (decimal number) (codes " see ") (label_text label) (codes " ") (decimal next) (codes "\n")

-- what stands before the clauses of a line
abbrev pub conjunction_front : ℕ → List ℕ
conjunction_front number = decimal number ++ (codes " all" ++ [])

-- the whole line of a conjunction behind what is held
pub conjunction-whole : (held : List ℕ) (number : ℕ) (clauses : List Clause)
    → held ++ node_text number (all_node clauses) ≡ ((held ++ conjunction_front number) ++ flat_map clause_text clauses) ++ codes "\n"
conjunction-whole held number clauses = simp (append_assoc, append-nil)

-- the same, cut behind a clause
pub conjunction-parts : (held : List ℕ) (number : ℕ) (clauses : List Clause) (k : ℕ) (d : Clause) → k < length clauses
    → held ++ node_text number (all_node clauses)
    ≡ (((held ++ conjunction_front number) ++ flat_map clause_text (take k clauses)) ++ clause_text (get_or clauses k d)) ++
    (flat_map clause_text (drop (k + 1) clauses) ++ codes "\n")
conjunction-parts held number clauses k d within =
    let front : List ℕ = held ++ conjunction_front number in
    conjunction-whole held number clauses ∙ ap (λ text. text ++ codes "\n") (row-stopped clause_text front clauses k d within)
    ∙ append_assoc ((front ++ flat_map clause_text (take k clauses)) ++ clause_text (get_or clauses k d)) (flat_map clause_text (drop (k + 1) clauses))
    (codes "\n")

-- lines of more nodes behind those of others
nodes_text-append : (number : ℕ) (front back : List SheetNode)
    → nodes_text number (front ++ back) ≡ nodes_text number front ++ nodes_text (number + length front) back
nodes_text-append number [] back = ap (λ n. nodes_text n back) (omega arith)
nodes_text-append number (node ∷ front) back =
    let same : number + 1 + length front ≡ number + length (node ∷ front) = omega arith in
    ap (λ text. node_text number node ++ text) (nodes_text-append (number + 1) front back ∙ ap (λ n. nodes_text (number + 1) front ++ nodes_text n back) same)
    ∙ sym (append_assoc (node_text number node) (nodes_text (number + 1) front) (nodes_text (number + length (node ∷ front)) back))

-- the line of one node more
nodes-more : (nodes : List SheetNode) (k : ℕ) (node : SheetNode) → slice_get nodes k ≡ Some node
    → sheet_text (take k nodes) ++ node_text k node ≡ sheet_text (take (k + 1) nodes)
nodes-more nodes k node at =
    let within : k < length nodes = slice_get_within nodes k node at in
    let more : take (k + 1) nodes ≡ take k nodes ++ node ∷ [] = take_more nodes k node within
    ∙ ap (λ last. take k nodes ++ last ∷ []) (get_or_from_slice_get nodes k node node at) in
    let long : 0 + length (take k nodes) ≡ k = omega (arith, length-take-le k nodes (omega arith)) in
    ap (λ text. sheet_text (take k nodes) ++ text) (sym (append-nil (node_text k node)) ∙ ap (λ n. nodes_text n (node ∷ [])) (sym long))
    ∙ sym (nodes_text-append 0 (take k nodes) (node ∷ [])) ∙ ap sheet_text (sym more)

-- the text up to a node, and the lines of the nodes after it
nodes-parts : (nodes : List SheetNode) (k : ℕ) (node : SheetNode) → slice_get nodes k ≡ Some node
    → sheet_text nodes ≡ (sheet_text (take k nodes) ++ node_text k node) ++ nodes_text (0 + length (take (k + 1) nodes)) (drop (k + 1) nodes)
nodes-parts nodes k node at =
    ap sheet_text (sym (take-append-drop (k + 1) nodes)) ∙ nodes_text-append 0 (take (k + 1) nodes) (drop (k + 1) nodes)
    ∙ ap (λ text. text ++ nodes_text (0 + length (take (k + 1) nodes)) (drop (k + 1) nodes)) (sym (nodes-more nodes k node at))

-- the same behind what is held
pub held-nodes-more : (held : List ℕ) (nodes : List SheetNode) (k : ℕ) (node : SheetNode) → slice_get nodes k ≡ Some node
    → (held ++ sheet_text (take k nodes)) ++ node_text k node ≡ held ++ sheet_text (take (k + 1) nodes)
held-nodes-more held nodes k node at =
    append_assoc held (sheet_text (take k nodes)) (node_text k node) ∙ ap (λ text. held ++ text) (nodes-more nodes k node at)

pub held-nodes-parts : (held : List ℕ) (nodes : List SheetNode) (k : ℕ) (node : SheetNode) → slice_get nodes k ≡ Some node
    → held ++ sheet_text nodes ≡ ((held ++ sheet_text (take k nodes)) ++ node_text k node) ++
    nodes_text (0 + length (take (k + 1) nodes)) (drop (k + 1) nodes)
held-nodes-parts held nodes k node at =
    let rest : List ℕ = nodes_text (0 + length (take (k + 1) nodes)) (drop (k + 1) nodes) in
    ap (λ text. held ++ text) (nodes-parts nodes k node at) ∙ sym (append_assoc held (sheet_text (take k nodes) ++ node_text k node) rest)
    ∙ ap (λ text. text ++ rest) (sym (append_assoc held (sheet_text (take k nodes)) (node_text k node)))
