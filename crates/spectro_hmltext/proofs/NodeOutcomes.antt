-- What is said of the numbers as they are read is true of the numbers of the line.
use Rattle.std.proofs.Common.{◌≡◌, ◌∙◌, ℕ, ◌≤◌, List, [], ◌∷◌, ◌++◌, length, map, refl, sym, ap, subst, arith, append_assoc}
use Rattle.std.specs.Prelude.{All, Result, Ok, Err, OnOk, IfErr}
use Rattle.std.specs.Str.{IsUtf8}
use Rattle.std.proofs.lemmas.List.Elements.{All-head, All-tail}
use Rattle.std.proofs.lemmas.Result.{on_ok_weaker}
use Rattle.spectro_io.specs.Numbers.{capped}
use Rattle.spectro_io.proofs.Utf8Cuts.{utf8_before, utf8_behind}
use Rattle.spectro_hml.specs.declared.node.Clause.{Clause}
use Rattle.spectro_hml.specs.Sheets.{SheetNode}
use Rattle.spectro_hmltext.specs.NodeLines.{BeginsQuoted, NodeForm, see_form, all_form, IsNodeForm, HasLabel, AreSmall, IsNodeAtPlace, IsAppended}
use Rattle.spectro_hmltext.specs.NodeFaults.{IsFormFault, bad_label, bad_number, bad_node, not_rising, bad_form, IsRefused}
use Rattle.spectro_hmltext.specs.NodeReading.{capped_clause, capped_form, IsPut, IsFormRefused}
use Rattle.spectro_hmltext.specs.declared.node_line.NodeError.{NodeError}
use Rattle.spectro_hmltext.specs.declared.node_line.NodeError.TheVariants.{BadLine, BadNumber, NotRising, BadNode, BadLabel, OutOfMemory}

-- ---- numbers that are small are read as they are
capped-small : (number : ℕ) → capped number ≤ 4294967295 → capped number ≡ number
capped-small number small = omega arith

small-capped : (number : ℕ) → number ≤ 4294967295 → capped number ≡ number
small-capped number small = omega arith

abbrev IsSmallClause : Clause → Type 0
IsSmallClause clause = clause.node ≤ 4294967295

with_node : (clause : Clause) (node : ℕ) → node ≡ clause.node → ◌≡◌ {A = Clause} (record { positive = clause.positive; node = node }) clause
with_node clause node e = let put : ℕ → Clause = λ node. record { positive = clause.positive; node = node } in ap put e

capped-clauses : (clauses : List Clause) → All IsSmallClause (map capped_clause clauses) → map capped_clause clauses ≡ clauses
capped-clauses [] small = refl
capped-clauses (clause ∷ clauses) small =
    let first : capped_clause clause ≡ clause = with_node clause (capped clause.node)
    (capped-small clause.node (All-head IsSmallClause (capped_clause clause) (map capped_clause clauses) small)) in
    let later : map capped_clause clauses ≡ clauses = capped-clauses clauses
    (All-tail IsSmallClause (capped_clause clause) (map capped_clause clauses) small) in
    cc

clauses-capped : (clauses : List Clause) → All IsSmallClause clauses → map capped_clause clauses ≡ clauses
clauses-capped [] small = refl
clauses-capped (clause ∷ clauses) small =
    let first : capped_clause clause ≡ clause = with_node clause (capped clause.node)
    (small-capped clause.node (All-head IsSmallClause clause clauses small)) in
    let later : map capped_clause clauses ≡ clauses = clauses-capped clauses (All-tail IsSmallClause clause clauses small) in
    cc

capped-form : (form : NodeForm) → AreSmall (capped_form form) → capped_form form ≡ form
capped-form (see_form number inside next) small =
    let first : capped number ≡ number = capped-small number small.0 in
    let second : capped next ≡ next = capped-small next small.1 in
    cc
capped-form (all_form number clauses) small =
    let first : capped number ≡ number = capped-small number small.0 in
    let others : map capped_clause clauses ≡ clauses = capped-clauses clauses small.1 in
    cc

form-capped : (form : NodeForm) → AreSmall form → capped_form form ≡ form
form-capped (see_form number inside next) small =
    let first : capped number ≡ number = small-capped number small.0 in
    let second : capped next ≡ next = small-capped next small.1 in
    cc
form-capped (all_form number clauses) small =
    let first : capped number ≡ number = small-capped number small.0 in
    let others : map capped_clause clauses ≡ clauses = clauses-capped clauses small.1 in
    cc

-- ---- faults
label-exact : (form : NodeForm) → HasLabel (capped_form form) → HasLabel form
label-exact (see_form number inside next) has = has
label-exact (all_form number clauses) has = has

exact-label : (form : NodeForm) → HasLabel form → HasLabel (capped_form form)
exact-label (see_form number inside next) has = has
exact-label (all_form number clauses) has = has

fault-exact : (form : NodeForm) (place : ℕ) (error : NodeError) → IsFormFault (capped_form form) place error → IsFormFault form place error
fault-exact form place error (bad_label none is) = bad_label (λ has. none (exact-label form has)) is
fault-exact form place error (bad_number has large is) = bad_number (label-exact form has)
    (λ small. large (subst AreSmall (sym (form-capped form small)) small)) is
fault-exact form place error (bad_node has small not_next is) = subst (λ form. IsFormFault form place error) (capped-form form small)
    (bad_node has small not_next is)
fault-exact form place error (not_rising has small next falls is) = subst (λ form. IsFormFault form place error) (capped-form form small)
    (not_rising has small next falls is)

module _ (line : List ℕ) (form read : NodeForm) (is : IsNodeForm line form) (same : read ≡ capped_form form) where
  exact : (place : ℕ) (error : NodeError) → IsFormFault read place error → IsFormFault form place error
  exact place error fault = fault-exact form place error (subst (λ form. IsFormFault form place error) same fault)

  refused-line : (place : ℕ) (error : NodeError) → IsFormRefused read place error → IsRefused line place error
  refused-line place BadLine fault = bad_form form is (exact place BadLine fault)
  refused-line place BadNumber fault = bad_form form is (exact place BadNumber fault)
  refused-line place NotRising fault = bad_form form is (exact place NotRising fault)
  refused-line place BadNode fault = bad_form form is (exact place BadNode fault)
  refused-line place BadLabel fault = bad_form form is (exact place BadLabel fault)
  refused-line place OutOfMemory fault = tt

  appended-line : (old new : List SheetNode) → IsPut read old new → IsAppended line old new
  appended-line old new put =
      let placed : IsNodeAtPlace (capped_form form) (length old) put.node = subst (λ form. IsNodeAtPlace form (length old) put.node) same put.placed in
      record {
        node = put.node;
        written = record {
          form = form;
          written = is;
          placed = subst (λ form. IsNodeAtPlace form (length old) put.node)
              (capped-form form placed.small) placed;
        };
        list = put.list;
      }

  pub told_refused : {T : Type 0} (place : ℕ) (result : Result T NodeError) → IfErr result (IsFormRefused read place) → IfErr result (IsRefused line place)
  told_refused place (Ok value) told = tt
  told_refused place (Err error) told = refused-line place error told

  pub told_appended : {T : Type 0} (old new : List SheetNode) (result : Result T NodeError) → OnOk result (IsPut read old new)
      → OnOk result (IsAppended line old new)
  told_appended old new result told = on_ok_weaker result (appended-line old new) told

-- ---- the text between the quotes
quoted-utf8 : (front text inside rest : List ℕ) → BeginsQuoted text inside rest → IsUtf8 (front ++ text) → IsUtf8 inside
quoted-utf8 front text inside rest begins utf8 =
    let whole : front ++ text ≡ (front ++ begins.front) ++ 34 ∷ (inside ++ 34 ∷ rest) =
    ap (λ text. front ++ text) (begins.whole ∙ append_assoc begins.front (34 ∷ inside) (34 ∷ rest))
    ∙ sym (append_assoc front begins.front (34 ∷ (inside ++ 34 ∷ rest))) in
    utf8_before inside 34 rest (omega arith) (utf8_behind (front ++ begins.front) 34 (inside ++ 34 ∷ rest) (omega arith) (subst IsUtf8 whole utf8))

pub inside-utf8 : (line inside : List ℕ) (number next : ℕ) → IsNodeForm line (see_form number inside next) → IsUtf8 line → IsUtf8 inside
inside-utf8 line inside number next is utf8 =
    let one : List ℕ = is.number.first.front ++ is.number.digits in
    let two : List ℕ = is.word.front ++ (115 ∷ 101 ∷ 101 ∷ []) in
    let whole : line ≡ (one ++ two) ++ is.behind_word = is.number.first.whole ∙ ap (λ text. one ++ text) is.word.whole
    ∙ sym (append_assoc one two is.behind_word) in
    quoted-utf8 (one ++ two) is.behind_word inside is.others.rest is.others.quoted (subst IsUtf8 whole utf8)
