-- What the table of a system answers is so in the system.
use Rattle.std.proofs.Common.{◌≡◌, ◌∙◌, ℕ, ◌<◌, List, [], ◌∷◌, length, map, All, Contains, sym, ap, subst, arith, slice_get, slice_index, slice_index_or, true}
use Rattle.std.specs.Prelude.{String, string_bytes, Some}
use Rattle.std.specs.Str.{bytes_eq}
use Rattle.std.specs.List.{IsDistinct}
use Rattle.std.specs.declared.alloc.Global.{Global}
use Rattle.std.proofs.lemmas.List.{length-map, get_or-map}
use Rattle.std.proofs.lemmas.List.Elements.{Contains-get_or}
use Rattle.std.proofs.lemmas.Option.{slice_get_within, get_or_from_slice_get}
use Rattle.spectro_spec.specs.System.{Label, System, post}
use Rattle.spectro_spec.specs.LabelOrder.{is_before_text, labels_from}
use Rattle.spectro_spec.proofs.LabelOrder.{AreInOrder, labels_from_is}
use Rattle.spectro_spec.proofs.Members.{Contains-first, Contains-later}
use Rattle.spectro_spec.proofs.Membership.{Contains-map, Contains-map_cases}
use Rattle.spectro_spec.proofs.Rising.{Ascends, ascends-from_increasing}
use Rattle.spectro_lts.specs.Indexed.{IsIndexed}
use Rattle.spectro_lts.specs.Labels.{labels_of, label_of}
use Rattle.spectro_lts.specs.Numbered.{label_at, steps_of}
use Rattle.spectro_lts.specs.Tables.{successors_of, label_nos_from, AreLabelsFrom, row_of, row_length, label_no_at}
use Rattle.spectro_lts.specs.declared.step.Step.{Step}
use Rattle.spectro_lts.specs.declared.table.Table.{Table}
use Rattle.spectro_lts.proofs.LabelLaws.{one_number, labels_of-distinct}
use Rattle.spectro_lts.proofs.Numbering.{label_at-numbered}
use Rattle.spectro_lts.proofs.Ranking.{label_at-text}
use Rattle.spectro_lts.proofs.TablesAnswers.{step_of_label}
use Rattle.spectro_lts.proofs.TablesCodes.{label_in_range}
use Rattle.spectro_lts.proofs.TablesNames.{IsNaming, successors_of-post, label_nos_from-named}

-- names in the order of their ranks
names_in_order : (name : ℕ → Label) (rank : ℕ → ℕ) (count : ℕ)
    → ((label_no other : ℕ) → label_no < count → other < count → rank label_no < rank other → is_before_text (name label_no) (name other) ≡ true)
    → (label_nos : List ℕ) → ((label_no : ℕ) → Contains label_nos label_no → label_no < count) → Ascends (map rank label_nos) → AreInOrder (map name label_nos)
names_in_order name rank count rise [] within up = tt
names_in_order name rank count rise (label_no ∷ []) within up = (tt, tt)
names_in_order name rank count rise (label_no ∷ other ∷ rest) within up = (
  rise label_no other (within label_no (Contains-first label_no (other ∷ rest)))
      (within other (Contains-later label_no (other ∷ rest) other (Contains-first other rest))) up.0,
  names_in_order name rank count rise (other ∷ rest) (λ k member. within k (Contains-later label_no (other ∷ rest) k member)) up.1,
)

abbrev pub system_of : ℕ → ℕ → List (String Global) → List Step → System
system_of states first labels steps = record { states = states; initial = first; steps = steps_of labels steps }

module _ (states first : ℕ) (labels : List (String Global)) (steps : List Step) (table : Table) (indexed : IsIndexed states first labels steps table) where
  pub count_of_labels : length labels ≡ length (labels_of (steps_of labels steps))
  count_of_labels = sym (length-map labels string_bytes) ∙ ap length indexed.numbered.in_order

  pub has_rank : (label_no : ℕ) → label_no < length (labels_of (steps_of labels steps)) → label_no < length table.order.items
  has_rank label_no within = omega (arith, within, count_of_labels, indexed.ranked.long, ap length indexed.has.ordered)

  label_of-at : (label_no : ℕ) → label_of (steps_of labels steps) label_no ≡ label_at labels label_no
  label_of-at label_no = sym (label_at-text labels label_no ∙ ap (λ texts. slice_index_or texts label_no []) indexed.numbered.in_order)

  same_names : label_of (steps_of labels steps) ≡ label_at labels
  same_names = λ i label_no. label_of-at label_no i

  naming : IsNaming (label_at labels) (length labels)
  naming label_no other within other_within same =
      one_number (map string_bytes labels) (label_at labels label_no) label_no other
      (subst (λ texts. IsDistinct bytes_eq texts) (sym indexed.numbered.in_order) (labels_of-distinct (steps_of labels steps)))
      (label_at-numbered labels label_no within) (label_at-numbered labels other other_within ∙ ap Some (sym same))

  pub successors-post : (s label_no : ℕ) → label_no < length (labels_of (steps_of labels steps))
      → successors_of steps s label_no ≡ post (system_of states first labels steps) (s ∷ []) (label_of (steps_of labels steps) label_no)
  successors-post s label_no within =
      successors_of-post (label_at labels) (length labels) steps states first s label_no naming
      (omega (arith, within, count_of_labels)) indexed.numbered.numbers
      ∙ ap (post (system_of states first labels steps) (s ∷ [])) (sym (label_of-at label_no))

  module _ (s : ℕ) (label_nos : List ℕ) (are : AreLabelsFrom indexed.ranks steps s label_nos) where
    in_labels : (label_no : ℕ) → Contains label_nos label_no → label_no < length labels
    in_labels label_no member =
        let found = step_of_label steps s label_no (are.only label_no member) in
        omega (arith, found.3, label_in_range states indexed.ranks steps indexed.has.in_range found.0 found.1, indexed.ranked.long)

    pub label_nos-in_range : All (λ label_no. label_no < length (labels_of (steps_of labels steps))) label_nos
    label_nos-in_range k default within = omega (arith, count_of_labels, in_labels _ (Contains-get_or label_nos k default within))

    by_name : map (label_at labels) label_nos ≡ labels_from (steps_of labels steps) s
    by_name =
        let law = label_nos_from-named (label_at labels) steps s in
        labels_from_is (map (label_at labels) label_nos) (steps_of labels steps) s
        (names_in_order (label_at labels) (λ label_no. slice_index indexed.ranks label_no) (length labels) indexed.ranked.rise label_nos in_labels
        (ascends-from_increasing (map (λ label_no. slice_index indexed.ranks label_no) label_nos) are.rise))
        (λ x member.
        let found = Contains-map_cases (label_at labels) label_nos x member in
        subst (λ xs. Contains xs x) law
        (subst (λ y. Contains (map (label_at labels) (label_nos_from steps s)) y) found.2
        (Contains-map (label_at labels) (label_nos_from steps s) found.0 (are.only found.0 found.1))))
        (λ x member.
        let found = Contains-map_cases (label_at labels) (label_nos_from steps s) x (subst (λ xs. Contains xs x) (sym law) member) in
        subst (λ y. Contains (map (label_at labels) label_nos) y) found.2 (Contains-map (label_at labels) label_nos found.0 (are.listed found.0 found.1)))

    pub label_nos-labels : map (label_of (steps_of labels steps)) label_nos ≡ labels_from (steps_of labels steps) s
    label_nos-labels = ap (λ name. map name label_nos) same_names ∙ by_name

  module _ (s : ℕ) (below : s < states) where
    row_are : AreLabelsFrom indexed.ranks steps s (row_of table s)
    row_are = indexed.has.labels s below

    -- s has as many labels in the table as in the system
    pub row_length-labels : length (labels_from (steps_of labels steps) s) ≡ row_length table s
    row_length-labels = sym (ap length (label_nos-labels s (row_of table s) row_are)) ∙ length-map (row_of table s) (label_of (steps_of labels steps))

    -- and at each place the same label
    pub label_at-row : (i : ℕ) (label : Label) → slice_get (labels_from (steps_of labels steps) s) i ≡ Some label
        → (label_no_at table s i < length (labels_of (steps_of labels steps))) × (label_of (steps_of labels steps) (label_no_at table s i) ≡ label)
    label_at-row i label here =
        let texts = steps_of labels steps in
        let within : i < row_length table s = omega (arith, slice_get_within (labels_from texts s) i label here, row_length-labels) in
        let named : slice_index_or (map (label_of texts) (row_of table s)) i [] ≡ label =
        ap (λ xs. slice_index_or xs i []) (label_nos-labels s (row_of table s) row_are) ∙ get_or_from_slice_get (labels_from texts s) i label [] here in
        (label_nos-in_range s (row_of table s) row_are i 0 within, sym (get_or-map (label_of texts) (row_of table s) i 0 [] within) ∙ named)

    -- the targets of its row are the successors under it
    pub row-post : (i : ℕ) (label : Label) → slice_get (labels_from (steps_of labels steps) s) i ≡ Some label
        → successors_of steps s (label_no_at table s i) ≡ post (system_of states first labels steps) (s ∷ []) label
    row-post i label here =
        let at = label_at-row i label here in
        successors-post s (label_no_at table s i) at.0 ∙ ap (post (system_of states first labels steps) (s ∷ [])) at.1
