-- The text of a formula in the pieces in which it is written.
use Rattle.std.proofs.Common.{◌≡◌, ◌∙◌, ℕ, ◌<◌, ◌≤◌, Bool, true, false, cond, List, [], ◌∷◌, ◌++◌, length, drop, get_or, refl, sym, ap, arith, append_assoc, append-nil, length-append}
use Rattle.std.specs.Prelude.{All, slice_get, Some, Result, Ok, Err, OnOk, is_ok, codes}
use Rattle.std.proofs.lemmas.List.Elements.{All-append, All-cons, All-nil, All-pop}
use Rattle.spectro_spec.specs.System.{Label}
use Rattle.spectro_spec.specs.Formula.{Formula, Clauses, all, plus, minus}
use Rattle.spectro_hml.specs.declared.node.Clause.{Clause}
use Rattle.spectro_hml.specs.Sheets.{SheetNode, see_node, all_node, clauses_of, formulas_of, unfolded}
use Rattle.spectro_hmltext.specs.Printed.{clauses_text, formula_text, label_text}
use Rattle.spectro_hmltext.specs.Rests.{IsRest, Leaves, clauses_in, rest_text, rests_text, sign_text}
use Rattle.spectro_hmltext.specs.declared.printer.Rest.{Rest}
use Rattle.spectro_hmltext.specs.declared.printer.Rest.TheVariants as rest
use Rattle.spectro_hml.proofs.NodeFormulas.{unfolded-see, unfolded-all}

-- ---- what one turn leaves
module _ {E : Type 0} (nodes : List SheetNode) (text old new : List ℕ) (below : List Rest) where
  -- a front and rests were put behind what was there
  pub leaves-front : (result : Result (Unit {0}) E) (now : List Rest) (front : List ℕ) (more : List Rest) → OnOk result (new ≡ old ++ front)
      → OnOk result (now ≡ below ++ more)
      → text ≡ front ++ rests_text nodes more → 0 < length front → All (IsRest nodes) more → OnOk result (Leaves nodes text old new below now)
  leaves-front (Ok done) now front more written left whole some named = record
      { front = front; more = more; written = written; left = left; whole = whole; some = some; named = named }
  leaves-front (Err e) now front more written left whole some named = tt

  -- the whole text was written
  pub leaves-none : (result : Result (Unit {0}) E) → new ≡ cond (is_ok result) (old ++ text) old → 0 < length text
      → OnOk result (Leaves nodes text old new below below)
  leaves-none (Ok done) written some = record {
    front = text;
    more = [];
    written = written;
    left = sym (append-nil below);
    whole = sym
        (append-nil text);
    some = some;
    named = λ i d within. absurd (omega arith);
  }
  leaves-none (Err e) written some = tt

module _ (nodes : List SheetNode) where
  -- ---- several rests
  rests_text-append : (below more : List Rest) → rests_text nodes (below ++ more) ≡ rests_text nodes more ++ rests_text nodes below
  rests_text-append [] more = sym (append-nil (rests_text nodes more))
  rests_text-append (one ∷ below) more = ap (λ text. text ++ rest_text nodes one) (rests_text-append below more)
      ∙ append_assoc (rests_text nodes more) (rests_text nodes below) (rest_text nodes one)

  -- the last of them was taken, and left others
  module _ (one : Rest) (old new : List ℕ) (before below now : List Rest) (turn : Leaves nodes (rest_text nodes one) old new below now)
      (popped : before ≡ below ++ one ∷ []) where
    rests-before : rests_text nodes before ≡ turn.front ++ rests_text nodes now
    rests-before =
        ap (rests_text nodes) popped ∙ rests_text-append below (one ∷ []) ∙ ap (λ text. text ++ rests_text nodes below) turn.whole
        ∙ append_assoc turn.front (rests_text nodes turn.more) (rests_text nodes below)
        ∙ ap (λ text. turn.front ++ text) (sym (rests_text-append below turn.more)) ∙ ap (λ rests. turn.front ++ rests_text nodes rests) (sym turn.left)

    -- what is written and what is still to be written is the same text
    pub whole-kept : (text : List ℕ) → old ++ rests_text nodes before ≡ text → new ++ rests_text nodes now ≡ text
    whole-kept text whole =
        ap (λ bytes. bytes ++ rests_text nodes now) turn.written ∙ append_assoc old turn.front (rests_text nodes now)
        ∙ ap (λ text. old ++ text) (sym rests-before) ∙ whole

    -- less of it is still to be written
    pub rests-shorter : length (rests_text nodes now) < length (rests_text nodes before)
    rests-shorter = omega (arith, turn.some, ap length rests-before, length-append turn.front (rests_text nodes now))

    pub named-kept : All (IsRest nodes) before → All (IsRest nodes) now
    named-kept named = rw turn.left (All-append (IsRest nodes) below turn.more (All-pop (IsRest nodes) before below (Some one) popped named).0 turn.named)

  -- ---- a conjunction of some clauses
  conjunction-pieces : (clause : Clause) (clauses : List Clause)
      → formula_text (all (clauses_of (formulas_of nodes) (clause ∷ clauses))) ≡
      (codes "and{" ++ sign_text clause) ++ (formula_text (unfolded nodes clause.node) ++ clauses_text (clauses_of (formulas_of nodes) clauses))
  conjunction-pieces clause clauses = by clause.positive (unfolded nodes clause.node) (clauses_of (formulas_of nodes) clauses)
    where
      by : (positive : Bool) (formula : Formula) (others : Clauses)
          → formula_text (all (cond positive (plus formula others) (minus formula others))) ≡
          (codes "and{" ++ cond positive [] (codes "not ")) ++ (formula_text formula ++ clauses_text others)
      by true formula others = refl
      by false formula others = refl

  -- ---- the text of a rest, by its node
  module _ (node : ℕ) where
    pub see-pieces : (label : Label) (next : ℕ) → slice_get nodes node ≡ Some (see_node label next) → next < node
        → rest_text nodes (rest.Formula node) ≡ (codes "<" ++ label_text label ++ codes ">") ++ rests_text nodes (rest.Formula next ∷ [])
    see-pieces label next at below = ap formula_text (unfolded-see nodes node label next at below)

    pub truth-text : (clauses : List Clause) → slice_get nodes node ≡ Some (all_node clauses) → length clauses < 1
        → rest_text nodes (rest.Formula node) ≡ codes "tt"
    truth-text [] at none = ap formula_text (unfolded-all nodes node [] at (λ i d within. absurd (omega arith)))
    truth-text (clause ∷ clauses) at none = absurd (omega arith)

    pub first-pieces : (clauses : List Clause) (d : Clause) → slice_get nodes node ≡ Some (all_node clauses) → 1 ≤ length clauses
        → All (λ clause. clause.node < node) clauses
        → rest_text nodes (rest.Formula node) ≡
        (codes "and{" ++ sign_text (get_or clauses 0 d)) ++ rests_text nodes (rest.Clauses node 1 ∷ rest.Formula (get_or clauses 0 d).node ∷ [])
    first-pieces [] d at some below = absurd (omega arith)
    first-pieces (clause ∷ clauses) d at some below =
        ap formula_text (unfolded-all nodes node (clause ∷ clauses) at below) ∙ conjunction-pieces clause clauses
        ∙ ap (λ found. (codes "and{" ++ sign_text clause) ++
        (formula_text (unfolded nodes clause.node) ++ clauses_text (clauses_of (formulas_of nodes) (drop 1 (clauses_in found))))) (sym at)

  -- the formulas that are left are of the sheet
  pub one-named : (one : Rest) → IsRest nodes one → All (IsRest nodes) (one ∷ [])
  one-named one here = All-cons (IsRest nodes) one [] here (All-nil (IsRest nodes))

  pub both-named : (one other : Rest) → IsRest nodes one → IsRest nodes other → All (IsRest nodes) (one ∷ other ∷ [])
  both-named one other first second = All-cons (IsRest nodes) one (other ∷ []) first (one-named other second)
