-- The labels of steps, each once: each has one number, and what has none is the label of no step.
use Rattle.std.proofs.Common.{◌≡◌, ◌∙◌, ◌⊎◌, inl, inr, ℕ, ◌+◌, ◌<◌, ◌≤◌, nat_lt, ◌||◌, Bool, true, false, suc, zero, List, [], ◌∷◌, ◌++◌, length, length-append, map, fold, Contains, slice_get, position, Some, None, refl, sym, ap, subst, arith}
use Rattle.std.specs.List.{list_any, IsDistinct, position_or_len}
use Rattle.std.specs.Str.{bytes_eq}
use Rattle.std.proofs.Math.ListN.{get_or}
use Rattle.std.proofs.lemmas.Bool.{cases_lt}
use Rattle.std.proofs.lemmas.Cmp.{nat_list_eq_equiv}
use Rattle.std.proofs.lemmas.Grind.{common_steps}
use Rattle.std.proofs.lemmas.List.{length-map, map-append}
use Rattle.std.proofs.lemmas.List.Elements.{Contains-append_left}
use Rattle.std.proofs.lemmas.List.Folds.{list_any-append}
use Rattle.std.proofs.lemmas.List.Quantifiers.{position-Some}
use Rattle.std.proofs.lemmas.List.Sums.{fails_before_first, fold-append}
use Rattle.std.proofs.lemmas.Map.Keys.{IsDistinct-push, apart_from_distinct}
use Rattle.std.proofs.lemmas.Map.Steps.{list_any_congr}
use Rattle.std.proofs.lemmas.Option.{slice_get_within, get_or_from_slice_get, slice_get-get_or, slice_get-map}
use Rattle.std.proofs.lemmas.Slice.Eq.{bytes_eq-Decides}
use Rattle.indexmap.specs.IndexSet.{insert_key, insert_all}
use Rattle.indexmap.proofs.CallerLemmas.{Contains-insert_key}
use Rattle.spectro_spec.specs.System.{Label, Step}
use Rattle.spectro_lts.specs.Labels.{labels_of}

same_bytes : (text other : List ℕ) → bytes_eq text other ≡ true → text ≡ other
same_bytes text other e = (bytes_eq-Decides text other).0 e

bytes_eq-same : (text other : List ℕ) → text ≡ other → bytes_eq text other ≡ true
bytes_eq-same text other e = (bytes_eq-Decides text other).1 e

-- ---- labels that are put in, one by one
IsDistinct-insert_key : (labels : List Label) (label : Label) → IsDistinct bytes_eq labels → IsDistinct bytes_eq (insert_key bytes_eq labels label)
IsDistinct-insert_key labels label distinct = by (list_any (bytes_eq label) labels) refl
  where
    by : (b : Bool) → list_any (bytes_eq label) labels ≡ b → IsDistinct bytes_eq (insert_key bytes_eq labels label)
    by true there = rw there distinct
    by false new = rw new (IsDistinct-push nat_list_eq_equiv labels label distinct new)

IsDistinct-insert_all : (labels more : List Label) → IsDistinct bytes_eq labels → IsDistinct bytes_eq (insert_all bytes_eq labels more)
IsDistinct-insert_all labels [] distinct = distinct
IsDistinct-insert_all labels (label ∷ more) distinct = IsDistinct-insert_all (insert_key bytes_eq labels label) more
    (IsDistinct-insert_key labels label distinct)

insert_key-keeps : (labels : List Label) (label other : Label) → Contains labels other → Contains (insert_key bytes_eq labels label) other
insert_key-keeps labels label other here = by (list_any (bytes_eq label) labels) refl
  where
    by : (b : Bool) → list_any (bytes_eq label) labels ≡ b → Contains (insert_key bytes_eq labels label) other
    by true there = rw there here
    by false new = rw new (Contains-append_left labels (label ∷ []) other here)

insert_all-keeps : (labels more : List Label) (other : Label) → Contains labels other → Contains (insert_all bytes_eq labels more) other
insert_all-keeps labels [] other here = here
insert_all-keeps labels (label ∷ more) other here = insert_all-keeps (insert_key bytes_eq labels label) more other (insert_key-keeps labels label other here)

insert_all-has : (labels more : List Label) (place : ℕ) (other : Label) → slice_get more place ≡ Some other → Contains (insert_all bytes_eq labels more) other
insert_all-has labels [] place other found = cc
insert_all-has labels (label ∷ more) zero other found =
    let same : label ≡ other = cc in
    insert_all-keeps (insert_key bytes_eq labels label) more other
    (subst (Contains (insert_key bytes_eq labels label)) same (Contains-insert_key bytes_eq same_bytes labels label))
insert_all-has labels (label ∷ more) (suc place) other found = insert_all-has (insert_key bytes_eq labels label) more place other found

-- no step takes a label away
length-insert_key : (labels : List Label) (label : Label) → length labels ≤ length (insert_key bytes_eq labels label)
length-insert_key labels label = by (list_any (bytes_eq label) labels) refl
  where
    by : (there : Bool) → list_any (bytes_eq label) labels ≡ there → length labels ≤ length (insert_key bytes_eq labels label)
    by true e = rw e (omega arith)
    by false e = rw e (omega (arith, length-append labels (label ∷ [])))

length-insert_all : (labels more : List Label) → length labels ≤ length (fold (insert_key bytes_eq) labels more)
length-insert_all labels [] = omega arith
length-insert_all labels (label ∷ more) = omega (arith, length-insert_key labels label, length-insert_all (insert_key bytes_eq labels label) more)

length-insert_key_most : (labels : List Label) (label : Label) → length (insert_key bytes_eq labels label) ≤ length labels + 1
length-insert_key_most labels label = by (list_any (bytes_eq label) labels) refl
  where
    by : (there : Bool) → list_any (bytes_eq label) labels ≡ there → length (insert_key bytes_eq labels label) ≤ length labels + 1
    by true e = rw e (omega arith)
    by false e = rw e (omega (arith, length-append labels (label ∷ [])))

length-insert_all_most : (labels more : List Label) → length (fold (insert_key bytes_eq) labels more) ≤ length labels + length more
length-insert_all_most labels [] = omega arith
length-insert_all_most labels (label ∷ more) =
    omega (arith, length-insert_key_most labels label, length-insert_all_most (insert_key bytes_eq labels label) more)

-- a label is among those put in where it was before, or is one of them
or-false : (b : Bool) → b ≡ (b || false)
or-false true = refl
or-false false = refl

or-later : (a b c : Bool) → ((a || b) || c) ≡ (a || (b || c))
or-later true b c = refl
or-later false b c = refl

list_any-insert_key : (labels : List Label) (label other : Label)
    → list_any (bytes_eq other) (insert_key bytes_eq labels label) ≡ (list_any (bytes_eq other) labels || bytes_eq other label)
list_any-insert_key labels label other = by (list_any (bytes_eq label) labels) (bytes_eq other label) refl refl
  where
    by : (there same : Bool) → list_any (bytes_eq label) labels ≡ there → bytes_eq other label ≡ same
        → list_any (bytes_eq other) (insert_key bytes_eq labels label) ≡ (list_any (bytes_eq other) labels || bytes_eq other label)
    by true true there same = let here : list_any (bytes_eq other) labels ≡ true = list_any_congr nat_list_eq_equiv other label labels same
        ∙ there in rw (there, same, here) refl
    by true false there same = rw (there, same) (or-false (list_any (bytes_eq other) labels))
    by false same new e = rw new (list_any-append (bytes_eq other) labels (label ∷ [])
        ∙ ap (λ b. list_any (bytes_eq other) labels || b) (sym (or-false (bytes_eq other label))))

list_any-insert_all : (labels more : List Label) (other : Label)
    → list_any (bytes_eq other) (insert_all bytes_eq labels more) ≡ (list_any (bytes_eq other) labels || list_any (bytes_eq other) more)
list_any-insert_all labels [] other = or-false (list_any (bytes_eq other) labels)
list_any-insert_all labels (label ∷ more) other =
    list_any-insert_all (insert_key bytes_eq labels label) more other
    ∙ ap (λ b. b || list_any (bytes_eq other) more) (list_any-insert_key labels label other)
    ∙ or-later (list_any (bytes_eq other) labels) (bytes_eq other label) (list_any (bytes_eq other) more)

-- a list that has those of another grows by no more than it
or-mono : (a b c : Bool) → (a ≡ true → b ≡ true) → (a || c) ≡ true → (b || c) ≡ true
or-mono true b c more e = rw (more refl) refl
or-mono false true c more e = refl
or-mono false false c more e = e

length-insert_key_apart : (n : ℕ) (some all : List Label) (label : Label)
    → ((other : Label) → list_any (bytes_eq other) some ≡ true → list_any (bytes_eq other) all ≡ true) → length all ≤ n + length some
    → length (insert_key bytes_eq all label) ≤ n + length (insert_key bytes_eq some label)
length-insert_key_apart n some all label more few = by (list_any (bytes_eq label) all) (list_any (bytes_eq label) some) refl refl
  where
    by : (there here : Bool) → list_any (bytes_eq label) all ≡ there → list_any (bytes_eq label) some ≡ here
        → length (insert_key bytes_eq all label) ≤ n + length (insert_key bytes_eq some label)
    by true here there e = rw there (omega (arith, few, length-insert_key some label))
    by false true there e = let both = more label e in cc
    by false false there e = rw (there, e) (omega (arith, few, length-append all (label ∷ []), length-append some (label ∷ [])))

length-insert_all_apart : (n : ℕ) (some all more : List Label)
    → ((other : Label) → list_any (bytes_eq other) some ≡ true → list_any (bytes_eq other) all ≡ true) → length all ≤ n + length some
    → length (fold (insert_key bytes_eq) all more) ≤ n + length (insert_all bytes_eq some more)
length-insert_all_apart n some all [] has few = few
length-insert_all_apart n some all (label ∷ more) has few =
    length-insert_all_apart n (insert_key bytes_eq some label) (insert_key bytes_eq all label) more
    (λ other e. list_any-insert_key all label other
    ∙ or-mono (list_any (bytes_eq other) some) (list_any (bytes_eq other) all) (bytes_eq other label) (has other)
    (sym (list_any-insert_key some label other) ∙ e))
    (length-insert_key_apart n some all label has few)

-- ---- labels of steps
labels_of-append : (steps more : List Step) → labels_of (steps ++ more) ≡ fold (insert_key bytes_eq) (labels_of steps) (map (λ step. step.label) more)
labels_of-append steps more =
    ap (fold (insert_key bytes_eq) []) (map-append (λ step. step.label) steps more)
    ∙ fold-append (insert_key bytes_eq) [] (map (λ step. step.label) steps) (map (λ step. step.label) more)

pub labels_of-push : (steps : List Step) (step : Step) → labels_of (steps ++ step ∷ []) ≡ insert_key bytes_eq (labels_of steps) step.label
labels_of-push steps step = labels_of-append steps (step ∷ [])

pub length-labels_of : (steps more : List Step) → length (labels_of steps) ≤ length (labels_of (steps ++ more))
length-labels_of steps more = rw (labels_of-append steps more) (length-insert_all (labels_of steps) (map (λ step. step.label) more))

-- there are at most as many labels as steps
pub length-labels_of_most : (steps : List Step) → length (labels_of steps) ≤ length steps
length-labels_of_most steps = omega (arith, length-insert_all_most [] (map (λ step. step.label) steps), length-map steps (λ step. step.label))

-- a step brings at most one label, and steps bring at most their own
pub length-labels_of_push : (steps : List Step) (step : Step) → length (labels_of (steps ++ step ∷ [])) ≤ length (labels_of steps) + 1
length-labels_of_push steps step = rw (labels_of-push steps step) (length-insert_key_most (labels_of steps) step.label)

pub length-labels_of_append : (steps more : List Step) → length (labels_of (steps ++ more)) ≤ length (labels_of steps) + length (labels_of more)
length-labels_of_append steps more =
    rw (labels_of-append steps more)
    (length-insert_all_apart (length (labels_of steps)) [] (labels_of steps) (map (λ step. step.label) more) (λ label e. cc) (omega arith))

pub list_any-map : {X Y : Type 0} (p : Y → Bool) (f : X → Y) (xs : List X) → list_any p (map f xs) ≡ list_any (λ x. p (f x)) xs
list_any-map p f [] = refl
list_any-map p f (x ∷ xs) = rw (list_any-map p f xs) refl

-- a label is among them exactly where some step has it
pub list_any-labels_of : (steps : List Step) (label : Label) → list_any (bytes_eq label) (labels_of steps) ≡ list_any (λ step. bytes_eq label step.label) steps
list_any-labels_of steps label = list_any-insert_all [] (map (λ step. step.label) steps) label ∙ list_any-map (bytes_eq label) (λ step. step.label) steps

labels_of-has : (steps : List Step) (step : Step) → Contains steps step → Contains (labels_of steps) step.label
labels_of-has steps step (place, within, at) =
    let found : slice_get steps place ≡ Some step = slice_get-get_or steps place step within ∙ ap Some at in
    insert_all-has [] (map (λ step. step.label) steps) place step.label (slice_get-map (λ (step : Step). step.label) steps place ∙ rw found refl)

none_passes : (labels : List Label) (label : Label) → position (bytes_eq label) labels ≡ None → Contains labels label → ⊥
none_passes labels label none (place, within, at) = by (cases_lt (position_or_len (bytes_eq label) labels) (length labels))
  where
    by : (position_or_len (bytes_eq label) labels < length labels) ⊎ (length labels ≤ position_or_len (bytes_eq label) labels) → ⊥
    by (inl inside) = let test : nat_lt (position_or_len (bytes_eq label) labels) (length labels) ≡ true = grind
        (arith, common_steps) in let some = rw test at none in cc
    by (inr past) =
        let fails = fails_before_first (bytes_eq label) labels place label (omega arith) in
        let passes = bytes_eq-same label (get_or labels place label) (sym at) in cc

-- a label with no number is that of no step
pub no_step_has : (steps : List Step) (label : Label) (step : Step) → position (bytes_eq label) (labels_of steps) ≡ None → step.label ≡ label
    → ¬ Contains steps step
no_step_has steps label step none same here = none_passes (labels_of steps) label none (subst (Contains (labels_of steps)) same (labels_of-has steps step here))

-- a label that is found stands at its number
pub found_label : (labels : List Label) (label : Label) (label_no : ℕ) → position (bytes_eq label) labels ≡ Some label_no
    → slice_get labels label_no ≡ Some label
found_label labels label label_no e =
    let at = position-Some (bytes_eq label) labels label_no [] e in
    slice_get-get_or labels label_no [] at.0 ∙ ap Some (sym (same_bytes label (get_or labels label_no []) at.1))

apart : (labels : List Label) (label : Label) (i j : ℕ) → IsDistinct bytes_eq labels → slice_get labels i ≡ Some label → slice_get labels j ≡ Some label
    → i < j → ⊥
apart labels label i j distinct at_i at_j less =
    let differ = apart_from_distinct bytes_eq labels i j [] distinct less (slice_get_within labels j label at_j) in
    let same = bytes_eq-same (get_or labels i []) (get_or labels j []) (get_or_from_slice_get labels i label [] at_i
    ∙ sym (get_or_from_slice_get labels j label [] at_j)) in
    cc

pub one_number : (labels : List Label) (label : Label) (i j : ℕ) → IsDistinct bytes_eq labels → slice_get labels i ≡ Some label
    → slice_get labels j ≡ Some label → i ≡ j
one_number labels label i j distinct at_i at_j = by (cases_lt i j) (cases_lt j i)
  where
    by : (i < j) ⊎ (j ≤ i) → (j < i) ⊎ (i ≤ j) → i ≡ j
    by (inl less) other = absurd (apart labels label i j distinct at_i at_j less)
    by (inr least) (inl less) = absurd (apart labels label j i distinct at_j at_i less)
    by (inr least) (inr most) = omega arith

no_label : IsDistinct bytes_eq []
unfolding IsDistinct
no_label = tt

pub labels_of-distinct : (steps : List Step) → IsDistinct bytes_eq (labels_of steps)
labels_of-distinct steps = IsDistinct-insert_all [] (map (λ step. step.label) steps) no_label
