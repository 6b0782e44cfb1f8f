-- How long the text of a node's formula is follows from the lengths for the nodes before it.
use Rattle.std.proofs.Common.{◌≡◌, ◌∙◌, ℕ, ◌+◌, ◌-◌, ◌^◌, ◌<◌, ◌≤◌, min, Bool, true, false, cond, List, [], ◌∷◌, ◌++◌, length, get_or, sym, ap, arith, length-append}
use Rattle.std.specs.Prelude.{All, slice_get, Some, codes}
use Rattle.std.specs.List.{sum_by}
use Rattle.std.proofs.lemmas.List.Elements.{All-head, All-tail}
use Rattle.std.proofs.lemmas.List.Sums.{sum_by-cons}
use Rattle.spectro_spec.specs.System.{Label}
use Rattle.spectro_spec.specs.Formula.{Formula, Clauses, all, plus, minus}
use Rattle.spectro_hml.specs.declared.node.Clause.{Clause}
use Rattle.spectro_hml.specs.Sheets.{SheetNode, see_node, all_node, clauses_of, formulas_of, unfolded}
use Rattle.spectro_hmltext.specs.Lengths.{AreLengths, clause_bytes, text_bytes}
use Rattle.spectro_hmltext.specs.Printed.{clauses_text, formula_text, label_text}
use Rattle.spectro_hml.proofs.NodeFormulas.{unfolded-see, unfolded-all}

-- ---- formulas
length-three : (a b c : List ℕ) → length (a ++ b ++ c) ≡ length a + length b + length c
length-three a b c = omega (arith, length-append (a ++ b) c, length-append a b)

length-see : (label : Label) (text : List ℕ) → length (codes "<" ++ label_text label ++ codes ">" ++ text) ≡ length text + (length (label_text label) + 2)
length-see label text = omega (arith, length-append (codes "<" ++ label_text label ++ codes ">") text, length-three (codes "<") (label_text label) (codes ">"))

-- a sum that stops at the top stops where its parts do
stopped-sum : (a b top : ℕ) → min (min a top + b) top ≡ min (a + b) top
stopped-sum a b top = omega arith

stopped-step : (a f s c mark top : ℕ) → min (a + mark + f + 1 + s) top ≡ min (a + mark + f + c) top
    → min (a + 1 + (min f top + mark + s)) top ≡ min (a + (mark + f + c)) top
stopped-step a f s c mark top same = omega arith

-- ---- nodes
module _ (nodes : List SheetNode) (k : ℕ) (before : List ℕ) (found : AreLengths nodes k before) where
  -- the clauses of a conjunction, and the brace behind them
  clauses-length : (clauses : List Clause) → All (λ clause. clause.node < k) clauses → (a : ℕ)
      → min (a + 1 + sum_by (clause_bytes before) clauses) (2 ^ 64 - 1) ≡ min (a + length (clauses_text (clauses_of (formulas_of nodes) clauses))) (2 ^ 64 - 1)
  clauses-length [] named a = omega arith
  clauses-length (clause ∷ clauses) named a =
      rw (sum_by-cons (clause_bytes before) clause clauses, found.each clause.node (All-head (λ clause. clause.node < k) clause clauses named))
      (by clause.positive (unfolded nodes clause.node) (clauses_of (formulas_of nodes) clauses) (sum_by (clause_bytes before) clauses)
      (clauses-length clauses (All-tail (λ clause. clause.node < k) clause clauses named)))
    where
      by : (positive : Bool) (formula : Formula) (rest : Clauses) (s : ℕ)
          → ((a : ℕ) → min (a + 1 + s) (2 ^ 64 - 1) ≡ min (a + length (clauses_text rest)) (2 ^ 64 - 1))
          → min (a + 1 + (text_bytes formula + cond positive 1 5 + s)) (2 ^ 64 - 1) ≡ min
          (a + length (clauses_text (cond positive (plus formula rest) (minus formula rest)))) (2 ^ 64 - 1)
      by true formula rest s later =
          stopped-step a (length (formula_text formula)) s (length (clauses_text rest)) 1 (2 ^ 64 - 1) (later (a + 1 + length (formula_text formula)))
          ∙ ap (λ n. min (a + n) (2 ^ 64 - 1)) (sym (length-three (codes ",") (formula_text formula) (clauses_text rest)))
      by false formula rest s later =
          stopped-step a (length (formula_text formula)) s (length (clauses_text rest)) 5 (2 ^ 64 - 1) (later (a + 5 + length (formula_text formula)))
          ∙ ap (λ n. min (a + n) (2 ^ 64 - 1)) (sym (length-three (codes ",not ") (formula_text formula) (clauses_text rest)))

  -- a conjunction takes three bytes more than its clauses and their brace
  length-conjunction : (clause : Clause) (clauses : List Clause)
      → length (formula_text (all (clauses_of (formulas_of nodes) (clause ∷ clauses)))) ≡ 3 + length
      (clauses_text (clauses_of (formulas_of nodes) (clause ∷ clauses)))
  length-conjunction clause clauses = by clause.positive (unfolded nodes clause.node) (clauses_of (formulas_of nodes) clauses)
    where
      by : (positive : Bool) (formula : Formula) (rest : Clauses)
          → length (formula_text (all (cond positive (plus formula rest) (minus formula rest)))) ≡ 3 + length
          (clauses_text (cond positive (plus formula rest) (minus formula rest)))
      by true formula rest = omega
          (arith, length-three (codes "and{") (formula_text formula) (clauses_text rest), length-three (codes ",") (formula_text formula) (clauses_text rest))
      by false formula rest = omega (
        arith,
        length-three (codes "and{not ") (formula_text formula) (clauses_text rest),
        length-three (codes ",not ") (formula_text formula)
            (clauses_text rest),
      )

  -- the length for each kind of node
  pub text_bytes-see : (label : Label) (next : ℕ) → slice_get nodes k ≡ Some (see_node label next) → next < k
      → min (get_or before next 0 + (length (label_text label) + 2)) (2 ^ 64 - 1) ≡ text_bytes (unfolded nodes k)
  text_bytes-see label next at below =
      ap (λ n. min (n + (length (label_text label) + 2)) (2 ^ 64 - 1)) (found.each next below)
      ∙ stopped-sum (length (formula_text (unfolded nodes next))) (length (label_text label) + 2) (2 ^ 64 - 1)
      ∙ ap (λ n. min n (2 ^ 64 - 1)) (sym (length-see label (formula_text (unfolded nodes next))))
      ∙ ap text_bytes (sym (unfolded-see nodes k label next at below))

  pub text_bytes-none : (clauses : List Clause) → slice_get nodes k ≡ Some (all_node clauses) → length clauses < 1 → 2 ≡ text_bytes (unfolded nodes k)
  text_bytes-none [] at none = ap text_bytes (sym (unfolded-all nodes k [] at (λ i d within. absurd (omega arith))))
  text_bytes-none (clause ∷ clauses) at none = absurd (omega arith)

  pub text_bytes-all : (clauses : List Clause) → slice_get nodes k ≡ Some (all_node clauses) → 1 ≤ length clauses → All (λ clause. clause.node < k) clauses
      → min (4 + sum_by (clause_bytes before) clauses) (2 ^ 64 - 1) ≡ text_bytes (unfolded nodes k)
  text_bytes-all [] at some named = absurd (omega arith)
  text_bytes-all (clause ∷ clauses) at some named =
      clauses-length (clause ∷ clauses) named 3 ∙ ap (λ n. min n (2 ^ 64 - 1)) (sym (length-conjunction clause clauses))
      ∙ ap text_bytes (sym (unfolded-all nodes k (clause ∷ clauses) at named))
