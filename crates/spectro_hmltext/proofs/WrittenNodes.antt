-- The line that is written for a node is of this node.
use Rattle.std.proofs.Common.{◌≡◌, ◌∙◌, ℕ, ◌^◌, ◌<◌, ◌≤◌, Bool, true, false, cond, List, [], ◌∷◌, ◌++◌, refl, sym, ap, subst, append_assoc, append-nil, arith}
use Rattle.std.specs.Prelude.{◌==◌, All, codes}
use Rattle.std.specs.Fmt.{decimal}
use Rattle.std.specs.List.{flat_map}
use Rattle.std.proofs.lemmas.Bool.{or_parts}
use Rattle.std.proofs.lemmas.List.{append_cancel_right}
use Rattle.std.proofs.lemmas.List.Elements.{All-weaker, All-head, All-tail}
use Rattle.spectro_io.specs.Blanks.{IsApart}
use Rattle.spectro_io.specs.QuotedLabels.{is_escaped, escaped, is_closed_behind, IsQuoted}
use Rattle.spectro_io.proofs.Decimals.{digits_of, is_number-decimal}
use Rattle.spectro_spec.specs.System.{IsLabel}
use Rattle.spectro_hml.specs.declared.node.Clause.{Clause}
use Rattle.spectro_hml.specs.Sheets.{SheetNode, see_node, all_node, IsNodeAt}
use Rattle.spectro_hmltext.specs.SheetTexts.{clause_text, node_text}
use Rattle.spectro_hmltext.specs.NodeLines.{BeginsNumber, BeginsClause, AreClauses, see_form, all_form, IsNodeForm, IsNodeLine, sign_of}
use Rattle.spectro_hmltext.proofs.CharacterLaws.{has_line_feed-none}

-- ---- numbers
decimal-number : (number : ℕ) (rest : List ℕ) → number < 2 ^ 64 → IsApart rest → BeginsNumber (decimal number ++ rest) number rest
decimal-number number rest small apart = record {
  digits = decimal number;
  first = record { front = []; whole = refl; blanks = refl; apart = apart };
  is_number = is_number-decimal number small;
  value = sym (digits_of number small).value;
}

-- ---- labels
closed-escaped : (label : List ℕ) → is_closed_behind false (escaped label) ≡ true
closed-escaped [] = refl
closed-escaped (byte ∷ label) = by (is_escaped byte) refl (closed-escaped label)
  where
    by : (special : Bool) → is_escaped byte ≡ special → is_closed_behind false (escaped label) ≡ true → is_closed_behind false (escaped (byte ∷ label)) ≡ true
    by true special later = rw special later
    by false special later =
        let parts = or_parts (byte == 34) (byte == 92) special in
        let quote : (byte == 34) ≡ false = parts.0 in
        let backslash : (byte == 92) ≡ false = parts.1 in
        rw (special, quote, backslash) later

label-IsQuoted : (label : List ℕ) → IsLabel label → IsQuoted (escaped label) label
label-IsQuoted label is = record { whole = refl; short = is.short; one_line = has_line_feed-none label is.one_line }

-- ---- clauses
clause_text-is : (clause : Clause) (rest : List ℕ) → clause_text clause ++ rest ≡ 32 ∷ sign_of clause.positive ∷ (decimal clause.node ++ rest)
clause_text-is clause rest = by clause.positive
  where
    by : (positive : Bool) → (cond positive (codes " +") (codes " -") ++ decimal clause.node) ++ rest ≡ 32 ∷ sign_of positive ∷ (decimal clause.node ++ rest)
    by true = refl
    by false = refl

clauses-apart : (clauses : List Clause) → IsApart (flat_map clause_text clauses)
clauses-apart [] = tt
clauses-apart (clause ∷ clauses) = subst IsApart (sym (clause_text-is clause (flat_map clause_text clauses))) refl

clauses-written : (clauses : List Clause) → All (λ clause. clause.node ≤ 4294967295) clauses → AreClauses (flat_map clause_text clauses) clauses
clauses-written [] small = refl
clauses-written (clause ∷ clauses) small =
    let here : clause.node ≤ 4294967295 = All-head (λ clause. clause.node ≤ 4294967295) clause clauses small in
    let rest : List ℕ = flat_map clause_text clauses in
    let digits = digits_of clause.node (omega arith) in
    let begins : BeginsClause (clause_text clause ++ rest) clause rest =
    record {
      digits = decimal clause.node;
      first = record { front = 32 ∷ []; whole = clause_text-is clause rest; blanks = refl; apart = clauses-apart clauses };
      is_number = is_number-decimal clause.node (omega arith);
      value = sym digits.value;
    } in
    (rest, begins, clauses-written clauses (All-tail (λ clause. clause.node ≤ 4294967295) clause clauses small))

-- ---- lines
see_line : ℕ → List ℕ → ℕ → List ℕ
see_line place label next = decimal place ++ (32 ∷ 115 ∷ 101 ∷ 101 ∷ 32 ∷ 34 ∷ (escaped label ++ 34 ∷ 32 ∷ (decimal next ++ [])))

all_line : ℕ → List Clause → List ℕ
all_line place clauses = decimal place ++ (32 ∷ 97 ∷ 108 ∷ 108 ∷ flat_map clause_text clauses)

see_line-is : (place : ℕ) (label : List ℕ) (next : ℕ) → node_text place (see_node label next) ≡ see_line place label next ++ 10 ∷ []
unfolding see_line
see_line-is place label next =
    let first : List ℕ = decimal place in
    let word : List ℕ = codes " see " in
    let last : List ℕ = decimal next in
    let quoted : List ℕ = 34 ∷ (escaped label ++ 34 ∷ []) in
    let ending : List ℕ = 32 ∷ (last ++ 10 ∷ []) in
    let left : (first ++ word ++ quoted ++ 32 ∷ []) ++ last ++ 10 ∷ [] ≡ first ++ (word ++ (quoted ++ ending)) =
    append_assoc (first ++ word ++ quoted ++ 32 ∷ []) last (10 ∷ []) ∙ append_assoc (first ++ word ++ quoted) (32 ∷ []) (last ++ 10 ∷ [])
    ∙ append_assoc (first ++ word) quoted ending ∙ append_assoc first word (quoted ++ ending) in
    let closed : quoted ++ ending ≡ 34 ∷ (escaped label ++ 34 ∷ ending) = ap (λ l. 34 ∷ l) (append_assoc (escaped label) (34 ∷ []) ending) in
    let tail : List ℕ = 34 ∷ 32 ∷ (last ++ []) in
    let stripped : (34 ∷ (escaped label ++ tail)) ++ 10 ∷ [] ≡ 34 ∷ (escaped label ++ 34 ∷ ending) =
    ap (λ l. 34 ∷ l) (append_assoc (escaped label) tail (10 ∷ []) ∙ ap (λ l. escaped label ++ 34 ∷ 32 ∷ l) (ap (λ l. l ++ 10 ∷ []) (append-nil last))) in
    let right : (first ++ (word ++ 34 ∷ (escaped label ++ tail))) ++ 10 ∷ [] ≡ first ++ (word ++ ((34 ∷ (escaped label ++ tail)) ++ 10 ∷ [])) =
    append_assoc first (word ++ 34 ∷ (escaped label ++ tail)) (10 ∷ []) ∙ ap (λ l. first ++ l) (append_assoc word (34 ∷ (escaped label ++ tail)) (10 ∷ [])) in
    left ∙ ap (λ l. first ++ (word ++ l)) (closed ∙ sym stripped) ∙ sym right

all_line-is : (place : ℕ) (clauses : List Clause) → node_text place (all_node clauses) ≡ all_line place clauses ++ 10 ∷ []
unfolding all_line
all_line-is place clauses = simp append_assoc

see-written : (place : ℕ) (label : List ℕ) (next : ℕ) → place < 2 ^ 64 → next < 2 ^ 64
    → IsNodeForm (see_line place label next) (see_form place (escaped label) next)
unfolding see_line
see-written place label next small small_next =
    let rest : List ℕ = 32 ∷ (decimal next ++ []) in
    let behind_word : List ℕ = 32 ∷ 34 ∷ (escaped label ++ 34 ∷ rest) in
    let number : BeginsNumber rest next [] = record {
      digits = decimal next;
      first = record { front = 32 ∷ []; whole = refl; blanks = refl; apart = tt };
      is_number = is_number-decimal next small_next;
      value = sym (digits_of next small_next).value;
    } in
    record {
      behind_number = 32 ∷ 115 ∷ 101 ∷ 101 ∷ behind_word;
      behind_word = behind_word;
      number = decimal-number place (32 ∷ 115 ∷ 101 ∷ 101 ∷ behind_word) small refl;
      word = record { front = 32 ∷ []; whole = refl; blanks = refl; apart = refl };
      others = record {
        rest = rest;
        back = [];
        quoted = record { front = 32 ∷ []; whole = refl; blanks = refl; closed = closed-escaped label; apart = refl };
        number = number;
        end = refl;
      };
    }

all-written : (place : ℕ) (clauses : List Clause) → place < 2 ^ 64 → All (λ clause. clause.node ≤ 4294967295) clauses
    → IsNodeForm (all_line place clauses) (all_form place clauses)
unfolding all_line
all-written place clauses small small_clauses = record {
  behind_number = 32 ∷ 97 ∷ 108 ∷ 108 ∷ flat_map clause_text clauses;
  behind_word = flat_map clause_text clauses;
  number = decimal-number place (32 ∷ 97 ∷ 108 ∷ 108 ∷ flat_map clause_text clauses) small refl;
  word = record { front = 32 ∷ []; whole = refl; blanks = refl; apart = clauses-apart clauses };
  others = clauses-written clauses small_clauses;
}

pub written_line : (line : List ℕ) (place : ℕ) (node : SheetNode) → node_text place node ≡ line ++ codes "\n" → IsNodeAt place node → place ≤ 4294967295
    → IsNodeLine line place node
written_line line place (see_node label next) text at small =
    let below : next < place = at.1 in
    let same : see_line place label next ≡ line = append_cancel_right (see_line place label next) line (10 ∷ []) (sym (see_line-is place label next) ∙ text) in
    record {
      form = see_form place (escaped label) next;
      written = subst (λ line. IsNodeForm line (see_form place (escaped label) next)) same (see-written place label next (omega arith) (omega arith));
      placed = record { small = (small, omega arith); next = (refl, below); rise = tt; given = (label, label-IsQuoted label at.0, refl) };
    }
written_line line place (all_node clauses) text at small =
    let small_clauses : All (λ clause. clause.node ≤ 4294967295) clauses = All-weaker (λ clause. clause.node < place) (λ clause. clause.node ≤ 4294967295)
    (λ clause below. omega arith) clauses at.1 in
    let same : all_line place clauses ≡ line = append_cancel_right (all_line place clauses) line (10 ∷ []) (sym (all_line-is place clauses) ∙ text) in
    record {
      form = all_form place clauses;
      written = subst (λ line. IsNodeForm line (all_form place clauses)) same (all-written place clauses (omega arith) small_clauses);
      placed = record { small = (small, small_clauses); next = (refl, at.1); rise = at.0; given = refl };
    }
