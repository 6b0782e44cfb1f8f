-- Where the labels of a system are numbered, the successors by number are those by label.
use Rattle.std.proofs.Common.{ℕ, ◌<◌, ◌≡◌, ◌==◌, ◌&&◌, ◌||◌, List, [], ◌∷◌, map, filter, refl, sym, ap, All, Bool, true, false, cond}
use Rattle.std.specs.List.{list_any}
use Rattle.std.specs.Str.{bytes_eq}
use Rattle.std.proofs.lemmas.Bool.{eqb-true, eq-eqb, and_parts, and_from, or_left, true≢false}
use Rattle.std.proofs.lemmas.Slice.Eq.{bytes_eq-Decides}
use Rattle.std.proofs.lemmas.List.Elements.{All-head, All-tail}
use Rattle.spectro_spec.specs.System.{rising, post}
use Rattle.spectro_spec.specs.System as spec
use Rattle.spectro_lts.specs.declared.step.Step.{Step}
use Rattle.spectro_lts.specs.Tables.{successors_of, label_nos_from}

-- the step with the label of its number
abbrev pub named : (ℕ → spec.Label) → Step → spec.Step
named name step = record { source = step.from; label = name step.label; target = step.to }

-- numbers below the count have labels of their own
abbrev pub IsNaming : (ℕ → spec.Label) → ℕ → Type 0
IsNaming name count = (first second : ℕ) → first < count → second < count → name first ≡ name second → first ≡ second

same_tests : (a b : Bool) → (a ≡ true → b ≡ true) → (b ≡ true → a ≡ true) → a ≡ b
same_tests true true there back = refl
same_tests true false there back = absurd (true≢false (sym (there refl)))
same_tests false true there back = absurd (true≢false (sym (back refl)))
same_tests false false there back = refl

or_none : (a : Bool) → (a || false) ≡ true → a ≡ true
or_none true h = refl
or_none false h = h

abbrev leads : ℕ → ℕ → Step → Bool
leads s label_no step = step.from == s && step.label == label_no

abbrev leads_by_label : ℕ → spec.Label → spec.Step → Bool
leads_by_label s label step = list_any (λ q. q == step.source) (s ∷ []) && bytes_eq step.label label

test_by_label : (name : ℕ → spec.Label) (count s label_no : ℕ) → IsNaming name count → label_no < count → (step : Step) → step.label < count
    → leads_by_label s (name label_no) (named name step) ≡ leads s label_no step
test_by_label name count s label_no naming below step within = same_tests (leads_by_label s (name label_no) (named name step)) (leads s label_no step)
    (λ h.
    let tests = and_parts (s == step.from || false) (bytes_eq (name step.label) (name label_no)) h in
    let source : s ≡ step.from = eqb-true s step.from (or_none (s == step.from) tests.0) in
    let same : name step.label ≡ name label_no = (bytes_eq-Decides (name step.label) (name label_no)).0 tests.1 in
    and_from (step.from == s) (step.label == label_no) (eq-eqb step.from s (sym source))
    (eq-eqb step.label label_no (naming step.label label_no within below same)))
    (λ h.
    let tests = and_parts (step.from == s) (step.label == label_no) h in
    let source : step.from ≡ s = eqb-true step.from s tests.0 in
    let under : step.label ≡ label_no = eqb-true step.label label_no tests.1 in
    and_from (s == step.from || false) (bytes_eq (name step.label) (name label_no)) (or_left (s == step.from) false (eq-eqb s step.from (sym source)))
    ((bytes_eq-Decides (name step.label) (name label_no)).1 (ap name under)))

targets_by_label : (name : ℕ → spec.Label) (count s label_no : ℕ) → IsNaming name count → label_no < count → (steps : List Step)
    → All (λ (step : Step). step.label < count) steps
    → map (λ (step : Step). step.to) (filter (leads s label_no) steps) ≡ spec.targets_of (map (named name) steps) (s ∷ []) (name label_no)
targets_by_label name count s label_no naming below [] all = refl
targets_by_label name count s label_no naming below (x ∷ steps) all =
    go (leads_by_label s (name label_no) (named name x)) (leads s label_no x)
    (test_by_label name count s label_no naming below x (All-head (λ (step : Step). step.label < count) x steps all))
    (targets_by_label name count s label_no naming below steps (All-tail (λ (step : Step). step.label < count) x steps all))
  where
    go : (a b : Bool) → a ≡ b
        → map (λ (step : Step). step.to) (filter (leads s label_no) steps) ≡ spec.targets_of (map (named name) steps) (s ∷ []) (name label_no)
        → map (λ (step : Step). step.to) (cond b (x ∷ filter (leads s label_no) steps) (filter (leads s label_no) steps))
        ≡ map (λ (step : spec.Step). step.target)
        (cond a (named name x ∷ filter (leads_by_label s (name label_no)) (map (named name) steps))
        (filter (leads_by_label s (name label_no)) (map (named name) steps)))
    go true true same rest = λ i. x.to ∷ rest i
    go true false same rest = absurd (true≢false same)
    go false true same rest = absurd (true≢false (sym same))
    go false false same rest = rest

-- the successors by number are the successors in the system under the number's label
pub successors_of-post : (name : ℕ → spec.Label) (count : ℕ) (steps : List Step) (states initial s label_no : ℕ) → IsNaming name count → label_no < count
    → All (λ (step : Step). step.label < count) steps
    → successors_of steps s label_no ≡ post (record { states = states; initial = initial; steps = map (named name) steps }) (s ∷ []) (name label_no)
unfolding post
successors_of-post name count steps states initial s label_no naming below all = ap rising (targets_by_label name count s label_no naming below steps all)

-- the labels of a state by number are those of its steps in the system
pub label_nos_from-named : (name : ℕ → spec.Label) (steps : List Step) (s : ℕ)
    → map name (label_nos_from steps s) ≡ map (λ (step : spec.Step). step.label) (filter (λ (step : spec.Step). step.source == s) (map (named name) steps))
label_nos_from-named name [] s = refl
label_nos_from-named name (x ∷ steps) s = go (x.from == s) (label_nos_from-named name steps s)
  where
    go : (kept : Bool)
        → map name (label_nos_from steps s) ≡ map (λ (step : spec.Step). step.label) (filter (λ (step : spec.Step). step.source == s) (map (named name) steps))
        → map name (map (λ (step : Step). step.label) (cond kept (x ∷ filter (λ (step : Step). step.from == s) steps)
        (filter (λ (step : Step). step.from == s) steps)))
        ≡ map (λ (step : spec.Step). step.label)
        (cond kept (named name x ∷ filter (λ (step : spec.Step). step.source == s) (map (named name) steps))
        (filter (λ (step : spec.Step). step.source == s) (map (named name) steps)))
    go true rest = λ i. name x.label ∷ rest i
    go false rest = rest
