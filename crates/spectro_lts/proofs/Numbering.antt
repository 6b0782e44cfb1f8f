-- Labels and steps by number.
use Rattle.std.proofs.Common.{◌≡◌, ◌∙◌, ℕ, zero, suc, ◌+◌, ◌<◌, ◌≤◌, Bool, true, false, List, [], ◌∷◌, ◌++◌, length, map, refl, sym, ap, subst, arith, length-append, append-nil}
use Rattle.std.specs.Prelude.{Some, String, string_bytes, slice_get, position, All}
use Rattle.std.specs.List.{list_any, prefix_len}
use Rattle.std.specs.Str.{bytes_eq}
use Rattle.std.specs.declared.alloc.Global.{Global}
use Rattle.std.proofs.lemmas.List.{map-append, length-map}
use Rattle.std.proofs.lemmas.List.Elements.{All-append, All-map}
use Rattle.std.proofs.lemmas.Option.{slice_get-map, slice_get_within, get_or_from_slice_get}
use Rattle.std.proofs.lemmas.Slice.Eq.{bytes_eq-Decides}
use Rattle.indexmap.specs.IndexSet.{insert_key}
use Rattle.spectro_spec.specs.System as spec
use Rattle.spectro_spec.specs.System.{IsLabel}
use Rattle.spectro_lts.specs.Labels.{labels_of, IsStepAt}
use Rattle.spectro_lts.specs.Numbered.{label_at, labelled, steps_of, IsNumbered, GivesNumber}
use Rattle.spectro_lts.specs.declared.step.Step.{Step}
use Rattle.spectro_lts.proofs.LabelLaws.{found_label, list_any-map, list_any-labels_of, labels_of-push}

-- the first place is that of the items before they are mapped
prefix_len-map : {X Y : Type 0} (p : Y → Bool) (f : X → Y) (xs : List X) → prefix_len p (map f xs) ≡ prefix_len (λ x. p (f x)) xs
prefix_len-map p f [] = refl
prefix_len-map p f (x ∷ xs) = rw (prefix_len-map p f xs) refl

position-map : {X Y : Type 0} (p : Y → Bool) (f : X → Y) (xs : List X) → position p (map f xs) ≡ position (λ x. p (f x)) xs
position-map p f xs = rw (prefix_len-map _ f xs, length-map xs f) refl

pub given_old : (labels : List (String Global)) (label : spec.Label) (label_no : ℕ) → position (λ key. bytes_eq label (string_bytes key)) labels ≡ Some label_no
    → list_any (λ key. bytes_eq label (string_bytes key)) labels ≡ true → GivesNumber labels label labels label_no
given_old labels label label_no e there = record {
  more = [];
  front = sym (append-nil labels);
  few = omega arith;
  alike = λ place default within. absurd (omega arith);
  labels = rw (list_any-map (bytes_eq label) string_bytes labels, there) refl;
  found = found_label (map string_bytes labels) label label_no (position-map (bytes_eq label) string_bytes labels ∙ e);
}

-- a new label goes behind the others
pub given_new : (labels : List (String Global)) (label : spec.Label) (value : String Global) (new : List (String Global)) (label_no : ℕ)
    → string_bytes value ≡ label
    → list_any (λ key. bytes_eq label (string_bytes key)) labels ≡ false
    → new ≡ insert_key (λ key other. bytes_eq (string_bytes key) (string_bytes other)) labels value
    → (stored : String Global) → slice_get new label_no ≡ Some stored → bytes_eq (string_bytes value) (string_bytes stored) ≡ true
    → GivesNumber labels label new label_no
given_new labels label value new label_no same none whole stored at equal =
    let absent : list_any (λ key. bytes_eq (string_bytes value) (string_bytes key)) labels ≡ false = subst
    (λ text. list_any (λ key. bytes_eq text (string_bytes key)) labels ≡ false) (sym same) none in
    let behind : new ≡ labels ++ value ∷ [] = whole ∙ rw absent refl in
    record {
      more = value ∷ [];
      front = behind;
      few = omega arith;
      alike = λ place default within. grind arith;
      labels = ap (map string_bytes) behind ∙ map-append string_bytes labels (value ∷ []) ∙ ap (λ text. map string_bytes labels ++ text ∷ []) same
          ∙ sym (rw (list_any-map (bytes_eq label) string_bytes labels, none) refl);
      found = slice_get-map string_bytes new label_no ∙ rw at (ap Some (sym ((bytes_eq-Decides (string_bytes value) (string_bytes stored)).0 equal) ∙ same));
    }

-- the labels of the old numbers stay
label_at-more : (labels more : List (String Global)) (label_no : ℕ) → label_no < length labels → label_at (labels ++ more) label_no ≡ label_at labels label_no
label_at-more [] more label_no within = absurd (omega arith)
label_at-more (label ∷ labels) more zero within = refl
label_at-more (label ∷ labels) more (suc label_no) within = label_at-more labels more label_no (omega arith)

steps_of-more : (labels more : List (String Global)) (steps : List Step) → All (λ step. step.label < length labels) steps
    → steps_of (labels ++ more) steps ≡ steps_of labels steps
steps_of-more labels more [] all = refl
steps_of-more labels more (step ∷ steps) all =
    let rest = steps_of-more labels more steps (λ place default within. all (suc place) default (omega arith)) in
    let here = label_at-more labels more step.label (all 0 step (omega arith)) in
    rw (rest, here) refl

label_at-found : (labels : List (String Global)) (label : spec.Label) (label_no : ℕ) → slice_get (map string_bytes labels) label_no ≡ Some label
    → label_at labels label_no ≡ label
label_at-found [] label label_no found = cc
label_at-found (first ∷ labels) label zero found = cc
label_at-found (first ∷ labels) label (suc label_no) found = label_at-found labels label label_no found

-- what stands after a step is added
pub added_steps : (old new : List (String Global)) (label : spec.Label) (steps : List Step) (step : Step) → All (λ step. step.label < length old) steps
    → GivesNumber old label new step.label
    → steps_of new (steps ++ step ∷ []) ≡ steps_of old steps ++ record { source = step.from; label = label; target = step.to } ∷ []
added_steps old new label steps step numbers given =
    let kept : steps_of new steps ≡ steps_of old steps = subst (λ labels. steps_of labels steps ≡ steps_of old steps) (sym given.front)
    (steps_of-more old given.more steps numbers) in
    let here = label_at-found new label step.label given.found in
    map-append (labelled new) steps (step ∷ []) ∙ rw (kept, here) refl

pub added : (states first : ℕ) (old new : List (String Global)) (label : spec.Label) (steps : List Step) (step : Step) → IsNumbered states first old steps
    → GivesNumber old label new step.label
    → step.from < states → step.to < states → length steps < 2000000 → length (insert_key bytes_eq (map string_bytes old) label) ≤ 131072 → IsLabel label
    → IsNumbered states first new (steps ++ step ∷ [])
added states first old new label steps step numbered given from to few_steps few_labels is_label =
    let longer : length new ≡ length old + length given.more = ap length given.front ∙ length-append old given.more in
    let here : step.label < length new = omega
    (arith, slice_get_within (map string_bytes new) step.label label given.found, length-map new (string_bytes {Z = Global})) in
    let numbers : All (λ step. step.label < length new) steps = λ place default within. omega (arith, numbered.numbers place default within) in
    record {
      few_states = numbered.few_states;
      initial = numbered.initial;
      few_steps = omega (arith, length-append steps (step ∷ []));
      few_labels = omega (arith, ap length given.labels, length-map new (string_bytes {Z = Global}), few_labels);
      sources = All-append (λ step. step.from < states) steps (step ∷ []) numbered.sources (λ place default within. grind arith);
      targets = All-append (λ step. step.to < states) steps (step ∷ []) numbered.targets (λ place default within. grind arith);
      numbers = All-append (λ step. step.label < length new) steps (step ∷ []) numbers (λ place default within. grind arith);
      short_labels = subst (All (λ key. IsLabel (string_bytes key))) (sym given.front)
          (All-append (λ key. IsLabel (string_bytes key)) old given.more numbered.short_labels
          (λ place default within. subst IsLabel (sym (given.alike place default within)) is_label));
      in_order = given.labels
          ∙ ap (λ labels. insert_key bytes_eq labels label) numbered.in_order
          ∙ sym (ap labels_of (added_steps old new label steps step numbered.numbers given)
          ∙ labels_of-push (steps_of old steps) (record { source = step.from; label = label; target = step.to }));
    }

-- with one more label the keys are as many as the labels of the steps with one more
pub few_keys : (states first : ℕ) (labels : List (String Global)) (steps : List Step) (system : spec.System) (step : spec.Step)
    → IsNumbered states first labels steps
    → record { states = states; initial = first; steps = steps_of labels steps } ≡ system → length (labels_of (system.steps ++ step ∷ [])) ≤ 131072
    → length (insert_key bytes_eq (map string_bytes labels) step.label) ≤ 131072
few_keys states first labels steps system step numbered same few =
    let with_one : labels_of (system.steps ++ step ∷ []) ≡ insert_key bytes_eq (map string_bytes labels) step.label =
    labels_of-push system.steps step
    ∙ ap (λ known. insert_key bytes_eq known step.label) (sym (numbered.in_order ∙ ap (λ system. labels_of system.steps) same)) in
    subst (λ known. length known ≤ 131072) with_one few

pub whole : (states first : ℕ) (labels : List (String Global)) (steps : List Step) → IsNumbered states first labels steps
    → spec.IsWhole (record { states = states; initial = first; steps = steps_of labels steps })
whole states first labels steps numbered = record {
  initial = numbered.initial;
  sources = All-map (λ step. step.source < states) (labelled labels) steps numbered.sources;
  targets = All-map (λ step. step.target < states) (labelled labels) steps numbered.targets;
}

pub label_at-numbered : (labels : List (String Global)) (label_no : ℕ) → label_no < length labels
    → slice_get (map string_bytes labels) label_no ≡ Some (label_at labels label_no)
label_at-numbered [] label_no within = absurd (omega arith)
label_at-numbered (label ∷ labels) zero within = refl
label_at-numbered (label ∷ labels) (suc label_no) within = label_at-numbered labels label_no (omega arith)

pub step_at : (states first : ℕ) (labels : List (String Global)) (steps : List Step) (place : ℕ) (step : Step) → IsNumbered states first labels steps
    → slice_get steps place ≡ Some step
    → IsStepAt (steps_of labels steps) place step.from step.label step.to
step_at states first labels steps place step numbered at =
    let within : place < length steps = slice_get_within steps place step at in
    let number : step.label < length labels = subst (λ step. step.label < length labels) (get_or_from_slice_get steps place step step at)
    (numbered.numbers place step within) in
    record {
      label = label_at labels step.label;
      found = slice_get-map (labelled labels) steps place ∙ rw at refl;
      numbered = subst (λ known. slice_get known step.label ≡ Some (label_at labels step.label)) numbered.in_order (label_at-numbered labels step.label number);
    }

-- the number of a label among the labels of the steps is its number among the keys
pub number_of_label : (states first : ℕ) (labels : List (String Global)) (steps : List Step) (label : spec.Label) → IsNumbered states first labels steps
    → position (λ key. bytes_eq label (string_bytes key)) labels ≡ position (bytes_eq label) (labels_of (steps_of labels steps))
number_of_label states first labels steps label numbered = sym (position-map (bytes_eq label) string_bytes labels)
    ∙ ap (position (bytes_eq label)) numbered.in_order

-- a key has the label exactly where some step has it
pub has_label : (states first : ℕ) (labels : List (String Global)) (steps : List Step) (label : spec.Label) → IsNumbered states first labels steps
    → list_any (λ key. bytes_eq label (string_bytes key)) labels ≡ list_any (λ step. bytes_eq label step.label) (steps_of labels steps)
has_label states first labels steps label numbered =
    sym (list_any-map (bytes_eq label) string_bytes labels) ∙ ap (list_any (bytes_eq label)) numbered.in_order
    ∙ list_any-labels_of (steps_of labels steps) label
