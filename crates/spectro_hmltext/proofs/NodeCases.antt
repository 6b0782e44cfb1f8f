-- Each line is of a node at a place or has a fault there.
use Rattle.std.proofs.Common.{◌≡◌, ◌⊎◌, inl, inr, ℕ, zero, suc, ◌<◌, ◌≤◌, Bool, true, false, List, [], ◌∷◌, ◌++◌, length, Option, Some, None, refl, subst, arith}
use Rattle.std.specs.Prelude.{◌==◌, All, codes}
use Rattle.std.specs.List.{list_all}
use Rattle.std.specs.Str.{bytes_eq}
use Rattle.std.proofs.lemmas.Bool.{both_ways, cases_Bool, cases_lt, eqb-false, eqb-true}
use Rattle.std.proofs.lemmas.List.Elements.{All-nil, All-cons, All-head, All-tail}
use Rattle.std.proofs.lemmas.Slice.Eq.{bytes_eq-Decides}
use Rattle.spectro_io.specs.Blanks.{is_blank, skip_blanks, AreBlanks, IsApart}
use Rattle.spectro_io.specs.Numbers.{is_number, number_value}
use Rattle.spectro_io.specs.Tokens.{first_token, after_token}
use Rattle.spectro_io.proofs.ClosingQuotes.{quotes-once}
use Rattle.spectro_io.proofs.QuoteCases.{quotes-cases, label-cases}
use Rattle.spectro_io.proofs.Tokens.{no_token}
use Rattle.spectro_hml.specs.declared.node.Clause.{Clause}
use Rattle.spectro_hml.specs.Clauses.{IsBeforeClause, ClausesRise}
use Rattle.spectro_hml.specs.Sheets.{SheetNode, see_node, all_node}
use Rattle.spectro_hmltext.specs.NodeLines.{BeginsQuoted, IsObservation, AreClauses, NodeForm, see_form, all_form, first_number, HoldsOfOthers, IsNodeForm, HasLabel, AreSmall, IsNextAt, Rises, IsNodeOf, IsNodeLine}
use Rattle.spectro_hmltext.specs.NodeReading.{IsNoObservation, AreNoClauses, clause_read}
use Rattle.spectro_hmltext.specs.NodeFaults.{IsFormFault, bad_label, bad_number, bad_node, not_rising, IsNodeFault, bad_line, bad_form}
use Rattle.spectro_hmltext.specs.NodeLaws.{EachLineHasANodeOrAFault}
use Rattle.spectro_hmltext.specs.declared.node_line.NodeError.{NodeError}
use Rattle.spectro_hmltext.specs.declared.node_line.NodeError.TheVariants.{BadLine, BadNumber, NotRising, BadNode, BadLabel}
use Rattle.spectro_hmltext.proofs.NodeClauses.{HasReadClauses, reads_on, reads_all, reads_no_more}
use Rattle.spectro_hmltext.proofs.NodeForms.{found-observation, is_number-first, number_after, no_clauses, no_end, no_observation, no_word, tokens-IsNodeForm}
use Rattle.spectro_hmltext.proofs.NodeLabels.{quoted-begins, begins-quoted}
use Rattle.spectro_hmltext.proofs.NodeTokens.{after-shorter}

-- a fact, or its contrary
abbrev Decided : Type 0 → Type 0
Decided P = P ⊎ (¬ P)

both : (P Q : Type 0) → Decided P → Decided Q → Decided (P × Q)
both P Q (inl p) (inl q) = inl (p, q)
both P Q (inr none) _ = inr (λ parts. none parts.0)
both P Q _ (inr none) = inr (λ parts. none parts.1)

equal : (one other : ℕ) → Decided (one ≡ other)
equal one other = elim (cases_Bool (one == other)) [ inl same ↦ inl (eqb-true one other same) | inr different ↦ inr (eqb-false one other different) ]

less : (one other : ℕ) → Decided (one < other)
less one other = elim (cases_lt one other) [ inl below ↦ inl below | inr above ↦ inr (λ below. omega arith) ]

at_most : (one other : ℕ) → Decided (one ≤ other)
at_most one other = elim (cases_lt other one) [ inl above ↦ inr (λ below. omega arith) | inr below ↦ inl below ]

same_bool : (one other : Bool) → Decided (one ≡ other)
same_bool true true = inl refl
same_bool true false = inr (λ e. cc)
same_bool false true = inr (λ e. cc)
same_bool false false = inl refl

module _ (P : Clause → Type 0) (decided : (clause : Clause) → Decided (P clause)) where
  of_all : (clauses : List Clause) → Decided (All P clauses)
  of_all [] = inl (All-nil P)
  of_all (clause ∷ clauses) = by (decided clause) (of_all clauses)
    where
      by : Decided (P clause) → Decided (All P clauses) → Decided (All P (clause ∷ clauses))
      by (inl here) (inl later) = inl (All-cons P clause clauses here later)
      by (inr none) _ = inr (λ all. none (All-head P clause clauses all))
      by _ (inr none) = inr (λ all. none (All-tail P clause clauses all))

-- ---- observations
quoted-cases : (text : List ℕ)
    → ((inside : List ℕ) × (rest : List ℕ) × BeginsQuoted text inside rest) ⊎ ((inside rest : List ℕ) → ¬ BeginsQuoted text inside rest)
quoted-cases text =
    elim (quotes-cases (skip_blanks text)) [
      | inl begins ↦ elim (apart begins.1) [
        | inl is_apart ↦ inl (begins.0, begins.1, begins-quoted text begins.0 begins.1 begins.2 is_apart)
        | inr joined ↦ inr (λ inside rest is. joined
            (subst IsApart (quotes-once (skip_blanks text) inside rest begins.0 begins.1 (quoted-begins text inside rest is) begins.2).1 is.apart))
      ]
      | inr none ↦ inr (λ inside rest is. none inside rest (quoted-begins text inside rest is))
    ]
  where
    apart : (rest : List ℕ) → Decided (IsApart rest)
    apart [] = inl tt
    apart (byte ∷ rest) = same_bool (is_blank byte) true

observation-cases : (text : List ℕ) → ((inside : List ℕ) × (next : ℕ) × IsObservation text inside next) ⊎ IsNoObservation text
observation-cases text =
    elim (quoted-cases text) [
      | inl quoted ↦ elim (cases_Bool (is_number (first_token quoted.1))) [
        | inl number ↦ elim (cases_Bool (list_all is_blank (after_token quoted.1))) [
          | inl end ↦ inl (quoted.0, number_value (first_token quoted.1), found-observation text quoted.0 quoted.1 quoted.2 number end)
          | inr more ↦ inr (no_end text quoted.0 quoted.1 quoted.2 (both_ways (list_all is_blank (after_token quoted.1)) more))
        ]
        | inr other ↦ inr (λ inside next is. both_ways (is_number (first_token quoted.1)) other
            (is_number-first quoted.1 next is.back (number_after text quoted.0 quoted.1 quoted.2 inside next is)))
      ]
      | inr none ↦ inr (λ inside next is. none inside is.rest is.quoted)
    ]

-- ---- clauses
clauses-cases : (granted : ℕ) (text rest : List ℕ) (read : List Clause) → length rest < granted → HasReadClauses text rest read
    → ((clauses : List Clause) × AreClauses text clauses) ⊎ AreNoClauses text
clauses-cases zero text rest read few so_far = absurd (omega arith)
clauses-cases (suc granted) text rest read few so_far =
    elim (cases_Bool (list_all is_blank rest)) [
      | inl end ↦ let all = reads_all text rest read so_far end in inl (all.clauses, all.are)
      | inr some ↦ next (both_ways (list_all is_blank rest) some) (clause_read (first_token rest)) refl (clauses-cases granted text (after_token rest))
    ]
  where
    next : ¬ AreBlanks rest → (found : Option Clause) → found ≡ clause_read (first_token rest)
        → ((read : List Clause) → length (after_token rest) < granted → HasReadClauses text (after_token rest) read
        → ((clauses : List Clause) × AreClauses text clauses) ⊎ AreNoClauses text)
        → ((clauses : List Clause) × AreClauses text clauses) ⊎ AreNoClauses text
    next some None none later = inr (reads_no_more text rest read so_far some none)
    next some (Some clause) found later =
        let shorter : length (after_token rest) < length rest = after-shorter rest (λ none. some ((no_token rest).0 none)) in
        later (read ++ clause ∷ []) (omega (arith, few, shorter)) (reads_on text rest read so_far clause found)

all_clauses-cases : (text : List ℕ) → ((clauses : List Clause) × AreClauses text clauses) ⊎ AreNoClauses text
all_clauses-cases text =
    clauses-cases (suc (length text)) text text [] (omega arith)
    (record { before = []; values = refl; sound = λ later are. are; complete = λ clauses are. (clauses, are) })

-- ---- forms
form-cases : (line : List ℕ) → ((form : NodeForm) × IsNodeForm line form) ⊎ ((form : NodeForm) → ¬ IsNodeForm line form)
form-cases line =
    elim (cases_Bool (is_number (first_token line))) [
      | inl number ↦ elim (cases_Bool (bytes_eq word (codes "see"))) [
        | inl see ↦ by_observation number ((bytes_eq-Decides word (codes "see")).0 see) (observation-cases others)
        | inr not_see ↦ elim (cases_Bool (bytes_eq word (codes "all"))) [
          | inl all ↦ by_clauses number ((bytes_eq-Decides word (codes "all")).0 all) (all_clauses-cases others)
          | inr not_all ↦ inr (no_word line (λ see. both_ways (bytes_eq word (codes "see")) not_see ((bytes_eq-Decides word (codes "see")).1 see))
              (λ all. both_ways (bytes_eq word (codes "all")) not_all ((bytes_eq-Decides word (codes "all")).1 all)))
        ]
      ]
      | inr other ↦ inr (λ form is. both_ways (is_number (first_token line)) other (is_number-first line (first_number form) is.behind_number is.number))
    ]
  where
    word : List ℕ
    word = first_token (after_token line)

    others : List ℕ
    others = after_token (after_token line)

    by_observation : is_number (first_token line) ≡ true → first_token (after_token line) ≡ codes "see"
        → (((inside : List ℕ) × (next : ℕ) × IsObservation (after_token (after_token line)) inside next) ⊎ IsNoObservation (after_token (after_token line)))
        → ((form : NodeForm) × IsNodeForm line form) ⊎ ((form : NodeForm) → ¬ IsNodeForm line form)
    by_observation number see (inl has) =
        let form = see_form (number_value (first_token line)) has.0 has.1 in
        inl (form, tokens-IsNodeForm line form (record { number = number; value = refl; word = see; others = has.2 }))
    by_observation number see (inr none) = inr (no_observation line see none)

    by_clauses : is_number (first_token line) ≡ true → first_token (after_token line) ≡ codes "all"
        → (((clauses : List Clause) × AreClauses (after_token (after_token line)) clauses) ⊎ AreNoClauses (after_token (after_token line)))
        → ((form : NodeForm) × IsNodeForm line form) ⊎ ((form : NodeForm) → ¬ IsNodeForm line form)
    by_clauses number all (inl has) =
        let form = all_form (number_value (first_token line)) has.0 in
        inl (form, tokens-IsNodeForm line form (record { number = number; value = refl; word = all; others = has.1 }))
    by_clauses number all (inr none) = inr (no_clauses line all none)

-- ---- nodes
has_label : (form : NodeForm) → Decided (HasLabel form)
has_label (see_form number inside next) =
    elim (label-cases inside) [ inl found ↦ inl found | inr none ↦ inr (λ has. none has.0 has.1) ]
has_label (all_form number clauses) = inl tt

of_others : (P : ℕ → Type 0) → ((number : ℕ) → Decided (P number)) → (form : NodeForm) → Decided (HoldsOfOthers P form)
of_others P decided (see_form number inside next) = decided next
of_others P decided (all_form number clauses) = of_all (λ clause. P clause.node) (λ clause. decided clause.node) clauses

are_small : (form : NodeForm) → Decided (AreSmall form)
are_small form =
    both (first_number form ≤ 4294967295) (HoldsOfOthers (λ number. number ≤ 4294967295) form) (at_most (first_number form) 4294967295)
    (of_others (λ number. number ≤ 4294967295) (λ number. at_most number 4294967295) form)

is_next : (place : ℕ) (form : NodeForm) → Decided (IsNextAt place form)
is_next place form =
    both (first_number form ≡ place) (HoldsOfOthers (λ number. number < place) form) (equal (first_number form) place)
    (of_others (λ number. number < place) (λ number. less number place) form)

is_before : (first second : Clause) → Decided (IsBeforeClause first second)
is_before first second =
    elim (less first.node second.node) [
      | inl below ↦ inl (inl below)
      | inr not_below ↦ elim (signs (equal first.node second.node) (same_bool first.positive true) (same_bool second.positive false)) [
        | inl same ↦ inl (inr same)
        | inr other ↦ inr (λ is. elim is [ inl below ↦ not_below below | inr same ↦ other same ])
      ]
    ]
  where
    signs : Decided (first.node ≡ second.node) → Decided (first.positive ≡ true) → Decided (second.positive ≡ false)
        → Decided ((first.node ≡ second.node) × (first.positive ≡ true) × (second.positive ≡ false))
    signs (inl one) (inl two) (inl three) = inl (one, two, three)
    signs (inr none) _ _ = inr (λ parts. none parts.0)
    signs _ (inr none) _ = inr (λ parts. none parts.1)
    signs _ _ (inr none) = inr (λ parts. none parts.2)

do_rise : (clauses : List Clause) → Decided (ClausesRise clauses)
do_rise [] = inl tt
do_rise (clause ∷ []) = inl tt
do_rise (clause ∷ next ∷ clauses) = both (IsBeforeClause clause next) (ClausesRise (next ∷ clauses)) (is_before clause next) (do_rise (next ∷ clauses))

rises : (form : NodeForm) → Decided (Rises form)
rises (see_form number inside next) = inl tt
rises (all_form number clauses) = do_rise clauses

node-given : (form : NodeForm) → HasLabel form → (node : SheetNode) × IsNodeOf form node
node-given (see_form number inside next) has = (see_node has.0 next, (has.0, has.1, refl))
node-given (all_form number clauses) has = (all_node clauses, refl)

-- the law
pub node_or_fault : EachLineHasANodeOrAFault
node_or_fault line place =
    elim (form-cases line) [
      | inl found ↦ of_form found.0 found.1
      | inr none ↦ inr (BadLine, bad_line none refl)
    ]
  where
    fails : (form : NodeForm) → IsNodeForm line form → (error : NodeError) → IsFormFault form place error
        → ((node : SheetNode) × IsNodeLine line place node) ⊎ ((error : NodeError) × IsNodeFault line place error)
    fails form written error fault = inr (error, bad_form form written fault)

    of_form : (form : NodeForm) → IsNodeForm line form
        → ((node : SheetNode) × IsNodeLine line place node) ⊎ ((error : NodeError) × IsNodeFault line place error)
    of_form form written =
        elim (has_label form) [
          | inl has ↦ elim (are_small form) [
            | inl small ↦ elim (is_next place form) [
              | inl next ↦ elim (rises form) [
                | inl rise ↦ let given = node-given form has in inl
                    (given.0, record { form = form; written = written; placed = record { small = small; next = next; rise = rise; given = given.1 } })
                | inr falls ↦ fails form written NotRising (not_rising has small next falls refl)
              ]
              | inr not_next ↦ fails form written BadNode (bad_node has small not_next refl)
            ]
            | inr large ↦ fails form written BadNumber (bad_number has large refl)
          ]
          | inr none ↦ fails form written BadLabel (bad_label none refl)
        ]
