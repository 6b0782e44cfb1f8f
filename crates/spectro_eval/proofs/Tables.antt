-- Rows of truths, one for each formula, and how they come by a node more.
use Rattle.std.proofs.Common.{◌≡◌, ◌∙◌, ◌⊎◌, inl, inr, ℕ, ◌+◌, ◌*◌, ◌/◌, ◌%◌, ◌==◌, ◌<◌, ◌≤◌, ◌↔◌, Bool, true, false, List, [], ◌∷◌, ◌++◌, length, length-append, take, drop, get_or, slice_get, Some, IsTrue, refl, sym, ap, subst, arith}
use Rattle.std.specs.Prelude.{All}
use Rattle.std.specs.Int.{bit_at}
use Rattle.std.proofs.Math.Nat.{div-mul-le_self, mul-le-mul_right}
use Rattle.std.proofs.Math.Seq.{drop-append_seam}
use Rattle.std.proofs.lemmas.Bool.{cases_lt}
use Rattle.std.proofs.lemmas.List.{get_or-drop, get_or_append_left, get_or_at, length-take-le, length_push, take_more}
use Rattle.std.proofs.lemmas.List.Elements.{All-nil, All-cons, All-head, All-tail, All-contains, All-weaker}
use Rattle.std.proofs.lemmas.List.FromFn.{get_or-map-range_with_len, length-map-range_with_len}
use Rattle.std.proofs.lemmas.Nat.{div-mul-add, mul-add-lt}
use Rattle.std.proofs.lemmas.Option.{slice_get_within, slice_get-get_or, get_or_from_slice_get}
use Rattle.spectro_spec.specs.System.{System, Step, Label, HasStep, IsWhole}
use Rattle.spectro_spec.specs.Formula.{Formula, see, all, no_clauses, plus, minus, Satisfies, SatisfiesEach}
use Rattle.spectro_hml.specs.declared.node.Clause.{Clause}
use Rattle.spectro_hml.specs.Sheets.{SheetNode, see_node, all_node, formula_at, clauses_of, formula_of_node, formulas_of, unfolded}
use Rattle.spectro_eval.specs.StateTables.{AreTruths, IsTrueAt, IsBefore}
use Rattle.spectro_hml.proofs.Unfoldings.{length-formulas_of, formulas_of-push}
use Rattle.spectro_eval.specs.Rows.{words_of, bit_of, bits_of, rows_of}
use Rattle.spectro_eval.specs.Truths.{AreSheetTruths, AreRows}
use Rattle.spectro_eval.proofs.Bits.{bits_of-get, bits_of-same, length-bits_of}
use Rattle.spectro_eval.proofs.Meets.{HasSign}

-- the bit of a formula's row
bit_truth : (system : System) (formulas : List Formula) (words : List ℕ) (k s : ℕ) → AreRows system formulas words → k < length formulas → s < system.states
    → IsTrue (bit_of (drop (k * words_of system.states) words) s) ↔ Satisfies system s (formula_at formulas k)
bit_truth system formulas words k s rows within below =
    let told = (rows.truths k within).truths s below in
    let read = bits_of-get system.states (drop (k * words_of system.states) words) s below in
    (λ set. told.0 (read ∙ set), λ holds. sym read ∙ told.1 holds)

-- ---- an observation
see_truths : (system : System) (label : Label) (formula : Formula) (row before : List Bool) → IsWhole system → AreTruths system formula row
    → IsBefore system.steps label row before → length before ≡ system.states → AreTruths system (see label formula) before
see_truths system label formula row before whole told leads long = record {
  whole = long;
  truths = λ s below. (
    λ set. on ((leads.leads s (omega arith)).0 set),
    λ (t, here, holds). (leads.leads s (omega arith)).1
        (t, here, (told.truths t (target s t here)).1 holds),
  );
}
  where
    target : (s t : ℕ) → HasStep system s label t → t < system.states
    target s t here = All-contains (λ (step : Step). step.target < system.states) system.steps
        (record { source = s; label = label; target = t }) whole.targets here

    on : {s : ℕ} → (t : ℕ) × HasStep system s label t × IsTrueAt row t → (t : ℕ) × HasStep system s label t × Satisfies system t formula
    on {s} (t, here, set) = (t, here, (told.truths t (target s t here)).0 set)

-- ---- a conjunction
absent : (b : Bool) (P : Type 0) → IsTrue b ↔ P → (b ≡ false) ↔ (¬ P)
absent true P told = (λ e. absurd (cc), λ no. absurd (no (told.0 refl)))
absent false P told = (λ e holds. let set = told.1 holds in cc, λ no. refl)

clause_more : (system : System) (formulas : List Formula) (words : List ℕ) (s : ℕ) → AreRows system formulas words → s < system.states
    → (clause : Clause) (clauses : List Clause) → clause.node < length formulas
    → All (HasSign words (words_of system.states) s) clauses ↔ SatisfiesEach system s (clauses_of formulas clauses)
    → All (HasSign words (words_of system.states) s) (clause ∷ clauses) ↔ SatisfiesEach system s (clauses_of formulas (clause ∷ clauses))
clause_more system formulas words s rows below clause clauses before rest = by clause.positive refl
  where
    Signed : Clause → Type 0
    Signed = HasSign words (words_of system.states) s

    bit : Bool
    bit = bit_of (drop (clause.node * words_of system.states) words) s

    told : IsTrue bit ↔ Satisfies system s (formula_at formulas clause.node)
    told = bit_truth system formulas words clause.node s rows before below

    by : (positive : Bool) → clause.positive ≡ positive → All Signed (clause ∷ clauses) ↔ SatisfiesEach system s (clauses_of formulas (clause ∷ clauses))
    by true sign =
        let first : clauses_of formulas (clause ∷ clauses) ≡ plus (formula_at formulas clause.node) (clauses_of formulas clauses) = rw sign refl in (
          λ each. subst (SatisfiesEach system s) (sym first)
              (told.0 (All-head Signed clause clauses each ∙ sign), rest.0 (All-tail Signed clause clauses each)),
          λ each. let both = subst (SatisfiesEach system s) first each in All-cons Signed clause clauses (told.1 both.0 ∙ sym sign) (rest.1 both.1),
        )
    by false sign =
        let first : clauses_of formulas (clause ∷ clauses) ≡ minus (formula_at formulas clause.node) (clauses_of formulas clauses) = rw sign refl in
        let not_told = absent bit (Satisfies system s (formula_at formulas clause.node)) told in (
          λ each. subst (SatisfiesEach system s) (sym first)
              (not_told.0 (All-head Signed clause clauses each ∙ sign), rest.0 (All-tail Signed clause clauses each)),
          λ each. let both = subst (SatisfiesEach system s) first each in All-cons Signed clause clauses (not_told.1 both.0 ∙ sym sign) (rest.1 both.1),
        )

clause_truths : (system : System) (formulas : List Formula) (words : List ℕ) (s : ℕ) → AreRows system formulas words → s < system.states
    → (clauses : List Clause) → All (λ clause. clause.node < length formulas) clauses
    → All (HasSign words (words_of system.states) s) clauses ↔ SatisfiesEach system s (clauses_of formulas clauses)
clause_truths system formulas words s rows below [] before = (λ each. tt, λ each. All-nil (HasSign words (words_of system.states) s))
clause_truths system formulas words s rows below (clause ∷ clauses) before =
    clause_more system formulas words s rows below clause clauses (All-head (λ (clause : Clause). clause.node < length formulas) clause clauses before)
    (clause_truths system formulas words s rows below clauses (All-tail (λ (clause : Clause). clause.node < length formulas) clause clauses before))

all_truths : (system : System) (formulas : List Formula) (words : List ℕ) (clauses : List Clause) (row : List ℕ) → AreRows system formulas words
    → All (λ clause. clause.node < length formulas) clauses
    → ((s : ℕ) → s < system.states → IsTrue (bit_of row s) ↔ All (HasSign words (words_of system.states) s) clauses)
    → AreTruths system (all (clauses_of formulas clauses)) (bits_of system.states row)
all_truths system formulas words clauses row rows before told = record {
  whole = length-bits_of system.states row;
  truths = λ s below.
      let each = clause_truths system formulas words s rows below clauses before in
      let read = bits_of-get system.states row s below in
      (λ set. each.0 ((told s below).0 (sym read ∙ set)), λ holds. read ∙ (told s below).1 (each.1 holds));
}

-- ---- a node more
length-front : (nodes : List SheetNode) (k : ℕ) → k < length nodes → length (formulas_of (take k nodes)) ≡ k
length-front nodes k within = length-formulas_of (take k nodes) ∙ length-take-le k nodes (omega arith)

unfolded_last : (nodes : List SheetNode) (k : ℕ) (node : SheetNode) → slice_get nodes k ≡ Some node
    → unfolded (take (k + 1) nodes) k ≡ formula_of_node (formulas_of (take k nodes)) node
unfolded_last nodes k node at = ap (λ nodes. unfolded nodes k) cut ∙ ap (λ formulas. formula_at formulas k) (formulas_of-push (take k nodes) node)
    ∙ get_or_at (formulas_of (take k nodes)) (formula_of_node (formulas_of (take k nodes)) node) [] (all no_clauses) k (length-front nodes k within)
  where
    within : k < length nodes
    within = slice_get_within nodes k node at

    cut : take (k + 1) nodes ≡ take k nodes ++ node ∷ []
    cut = take_more nodes k node within ∙ ap (λ last. take k nodes ++ last ∷ []) (get_or_from_slice_get nodes k node node at)

-- the row of a node before it is there
pub row_room : (system : System) (nodes : List SheetNode) (k node width : ℕ) (rows : List ℕ) → k < length nodes
    → AreRows system (formulas_of (take k nodes)) rows → width ≡ words_of system.states → node < k → (node + 1) * width ≤ length rows
row_room system nodes k node width rows within told wide below =
    let words = words_of system.states in
    let few = mul-le-mul_right words below in
    rw wide (omega (arith, told.long, ap (λ n. n * words) (length-front nodes k within), few))

-- the row of an observation
pub see_row : (system : System) (nodes : List SheetNode) (k : ℕ) (label : Label) (next width : ℕ) (rows row before : List ℕ) → IsWhole system
    → slice_get nodes k ≡ Some (see_node label next) → next < k
    → AreRows system (formulas_of (take k nodes)) rows → width ≡ words_of system.states → row ≡ drop (next * width) rows
    → IsBefore system.steps label (bits_of system.states row) (bits_of system.states before)
    → AreTruths system (unfolded (take (k + 1) nodes) k) (bits_of system.states before)
see_row system nodes k label next width rows row before whole at below told wide is leads =
    let here : next < length (formulas_of (take k nodes)) = omega (arith, length-front nodes k (slice_get_within nodes k (see_node label next) at)) in
    let next_row = ap (bits_of system.states) (is ∙ ap (λ width. drop (next * width) rows) wide) in
    let next_truths = subst (AreTruths system (formula_at (formulas_of (take k nodes)) next)) (sym next_row) (told.truths next here) in
    rw (unfolded_last nodes k (see_node label next) at)
    (see_truths system label (formula_at (formulas_of (take k nodes)) next) (bits_of system.states row)
    (bits_of system.states before) whole next_truths leads (length-bits_of system.states before))

-- the row of a conjunction
pub all_row : (system : System) (nodes : List SheetNode) (k : ℕ) (clauses : List Clause) (width : ℕ) (rows row : List ℕ)
    → slice_get nodes k ≡ Some (all_node clauses) → All (λ clause. clause.node < k) clauses
    → AreRows system (formulas_of (take k nodes)) rows → width ≡ words_of system.states
    → ((s : ℕ) → s / 64 < width → IsTrue (bit_of row s) ↔ All (HasSign rows width s) clauses)
    → AreTruths system (unfolded (take (k + 1) nodes) k) (bits_of system.states row)
all_row system nodes k clauses width rows row at below told wide each =
    let long = length-front nodes k (slice_get_within nodes k (all_node clauses) at) in
    let before = All-weaker (λ (clause : Clause). clause.node < k) (λ (clause : Clause). clause.node < length (formulas_of (take k nodes)))
    (λ clause below. omega (arith, long)) clauses below in
    let signs : (s : ℕ) → s < system.states
    → IsTrue (bit_of row s) ↔ All (HasSign rows (words_of system.states) s) clauses = λ s below. subst
    (λ width. IsTrue (bit_of row s) ↔ All (HasSign rows width s) clauses) wide (each s (omega arith)) in
    rw (unfolded_last nodes k (all_node clauses) at) (all_truths system (formulas_of (take k nodes)) rows clauses row told before signs)

rows_push : (system : System) (formulas : List Formula) (formula : Formula) (words row : List ℕ) → AreRows system formulas words
    → AreTruths system formula (bits_of system.states row) → length row ≡ words_of system.states → AreRows system (formulas ++ formula ∷ []) (words ++ row)
rows_push system formulas formula words row rows last wide = record { long = long; truths = λ k within. by k within (cases_lt k (length formulas)) }
  where
    width : ℕ
    width = words_of system.states

    long : length (words ++ row) ≡ length (formulas ++ formula ∷ []) * width
    long = omega (arith, length-append words row, ap (λ n. n * width) (length_push formulas formula), rows.long, wide)

    kept : (k : ℕ) → k < length formulas → bits_of system.states (drop (k * width) (words ++ row)) ≡ bits_of system.states (drop (k * width) words)
    kept k within = bits_of-same system.states (bits_of system.states (drop (k * width) words)) (drop (k * width) (words ++ row))
        (length-bits_of system.states (drop (k * width) words)) (λ s below.
        let inside : s / 64 < width = omega arith in
        let place : k * width + s / 64 < length words = omega (arith, mul-add-lt k width (s / 64) (length formulas) within inside, rows.long) in
        let word : get_or (drop (k * width) words) (s / 64) 0 ≡ get_or (drop (k * width) (words ++ row)) (s / 64) 0 =
        get_or-drop (k * width) words (s / 64) 0 ∙ sym (get_or_append_left words row 0 (k * width + s / 64) place)
        ∙ sym (get_or-drop (k * width) (words ++ row) (s / 64) 0) in
        bits_of-get system.states (drop (k * width) words) s below ∙ ap (λ word. bit_at word (s % 64) == 1) word)

    by : (k : ℕ) → k < length (formulas ++ formula ∷ []) → (k < length formulas) ⊎ (length formulas ≤ k)
        → AreTruths system (formula_at (formulas ++ formula ∷ []) k) (bits_of system.states (drop (k * width) (words ++ row)))
    by k within (inl before) = rw (get_or_append_left formulas (formula ∷ []) (all no_clauses) k before, kept k before) (rows.truths k before)
    by k within (inr past) =
        let here : length formulas ≡ k = omega (arith, length_push formulas formula) in
        let seam : drop (k * width) (words ++ row) ≡ row = ap (λ n. drop n (words ++ row)) (ap (λ n. n * width) (sym here) ∙ sym rows.long)
        ∙ drop-append_seam words row in
        rw (get_or_at formulas formula [] (all no_clauses) k here, seam) last

pub rows_more : (system : System) (nodes : List SheetNode) (k : ℕ) (words row : List ℕ) → k < length nodes
    → AreRows system (formulas_of (take k nodes)) words → AreTruths system (unfolded (take (k + 1) nodes) k) (bits_of system.states row)
    → length row ≡ words_of system.states → AreRows system (formulas_of (take (k + 1) nodes)) (words ++ row)
rows_more system nodes k words row within rows last wide =
    let node = get_or nodes k (all_node []) in
    let told = subst (λ formula. AreTruths system formula (bits_of system.states row))
    (unfolded_last nodes k node (slice_get-get_or nodes k (all_node []) within)) last in
    let grown : formulas_of (take (k + 1) nodes) ≡ formulas_of (take k nodes) ++ formula_of_node (formulas_of (take k nodes)) node ∷ [] = ap formulas_of
    (take_more nodes k (all_node []) within) ∙ formulas_of-push (take k nodes) node in
    rw grown (rows_push system (formulas_of (take k nodes)) (formula_of_node (formulas_of (take k nodes)) node) words row rows told wide)

-- ---- the whole table
pub table_truths : (system : System) (nodes : List SheetNode) (words : List ℕ) → IsWhole system → AreRows system (formulas_of nodes) words
    → AreSheetTruths system nodes (rows_of system.states words)
table_truths system nodes words whole rows = record {
  long = length-map-range_with_len row 0 (length words / width)
      ∙ count;
  truths = λ k within. subst (AreTruths system (unfolded nodes k)) (sym (at k within)) (rows.truths k (omega (arith, length-formulas_of nodes)));
}
  where
    width : ℕ
    width = words_of system.states

    row : ℕ → List Bool
    row k = bits_of system.states (drop (k * width) words)

    count : length words / width ≡ length nodes
    count = ap (λ n. n / width) (omega (arith, rows.long, ap (λ n. n * width) (length-formulas_of nodes)))
        ∙ div-mul-add (length nodes) width 0 (omega (arith, whole.initial))

    at : (k : ℕ) → k < length nodes → get_or (rows_of system.states words) k [] ≡ row k
    at k within = get_or-map-range_with_len row 0 (length words / width) k k [] (omega (arith, count)) (omega arith)

-- a bit of the table
pub record IsPlace (states : ℕ) (words : List ℕ) (node state : ℕ) : Type 0 where
  pub begins : (node + 1) * words_of states ≤ length words
  pub within : state / 64 < words_of states
  pub value : get_or (get_or (rows_of states words) node []) state false ≡ bit_of (drop (node * words_of states) words) state

pub is_place : (states : ℕ) (words : List ℕ) (node state : ℕ) → node < length (rows_of states words)
    → state < length (get_or (rows_of states words) node []) → IsPlace states words node state
is_place states words node state below inside = record {
  begins = begins;
  within = omega (arith, here);
  value = ap (λ row. get_or row state false) at
      ∙ bits_of-get states (drop (node * width) words) state here;
}
  where
    width : ℕ
    width = words_of states

    row : ℕ → List Bool
    row k = bits_of states (drop (k * width) words)

    few : node < length words / width
    few = omega (arith, length-map-range_with_len row 0 (length words / width))

    at : get_or (rows_of states words) node [] ≡ row node
    at = get_or-map-range_with_len row 0 (length words / width) node node [] few (omega arith)

    here : state < states
    here = omega (arith, ap length at, length-bits_of states (drop (node * width) words))

    begins : (node + 1) * width ≤ length words
    begins = omega (arith, mul-le-mul_right width few, div-mul-le_self (length words) width)

-- what a bit of the table tells
pub told_bit : (system : System) (nodes : List SheetNode) (rows : List (List Bool)) (node state : ℕ) (bit : Bool) → AreSheetTruths system nodes rows
    → node < length rows → state < length (get_or rows node []) → bit ≡ get_or (get_or rows node []) state false
    → IsTrue bit ↔ Satisfies system state (unfolded nodes node)
told_bit system nodes rows node state bit told below inside is =
    let row = told.truths node (omega (arith, told.long)) in
    let truth = row.truths state (omega (arith, row.whole)) in
    (λ set. truth.0 (sym is ∙ set), λ holds. is ∙ truth.1 holds)
