-- The systems as they grow: with the steps under a as far as the state s.
use Rattle.std.proofs.Common.{◌≡◌, ◌∙◌, ℕ, ◌+◌, ◌-◌, ◌*◌, ◌<◌, ◌≤◌, zero, suc, refl, sym, ap, add-zero, arith}
use Rattle.std.proofs.Common.{List, [], ◌∷◌, ◌++◌, length, length-append, map, codes, append_assoc}
use Rattle.std.proofs.lemmas.List.{flat_map_more}
use Rattle.std.proofs.lemmas.List.FromFn.{map-range_with_len_more}
use Rattle.std.specs.List.{flat_map, range_with_len}
use Rattle.spectro_spec.specs.System.{System, Step}
use Rattle.spectro_lts.specs.Labels.{labels_of}
use Rattle.spectro_lts.specs.declared.draft.TheConstants.{MAX_LABELS}
use Rattle.spectro_lts.proofs.Joining.{with_all, with_last}
use Rattle.spectro_lts.proofs.LabelLaws.{length-labels_of_most}
use Rattle.spectro_demo.specs.Systems.{demo_left, demo_right, next_step, next_steps, step}

-- of the system on the left, the steps from the states below s
abbrev pub left_below : ℕ → ℕ → System
left_below n s = record { states = n + 2; initial = 0; steps = map next_step (range_with_len 0 s) }

-- of the system on the right, the steps from 0 and from the states below s of both lines
abbrev pub right_below : ℕ → ℕ → System
right_below n s = record {
  states = 2 * n + 2;
  initial = 0;
  steps = step 0 (codes "a") 1 ∷ step 0 (codes "a") (n + 1) ∷ flat_map (next_steps n) (range_with_len 1 (s - 1));
}

pub few_labels : (steps : List Step) → length steps < MAX_LABELS → length (labels_of steps) < MAX_LABELS
few_labels steps few = omega (arith, few, length-labels_of_most steps)

pub length-with_last : (old new : System) (last : Step) → new ≡ with_last old last → length new.steps ≡ length old.steps + 1
length-with_last old new last more = ap (λ (system : System). length system.steps) more ∙ length-append old.steps (last ∷ [])

with_two : (steps : List Step) (one other : Step) → steps ++ one ∷ [] ++ other ∷ [] ≡ steps ++ one ∷ other ∷ []
with_two steps one other = append_assoc steps (one ∷ []) (other ∷ [])

-- two steps more
grown_by_two : (old mid new : System) (one other : Step) → mid ≡ with_last old one → new ≡ with_last mid other
    → new ≡ with_all old (old.steps ++ one ∷ other ∷ [])
grown_by_two old mid new one other first second =
    second ∙ ap (λ (system : System). with_last system other) first ∙ ap (λ steps. with_all old steps) (with_two old.steps one other)

-- one number more
range-suc : (a n : ℕ) → range_with_len a (suc n) ≡ range_with_len a n ++ (a + n) ∷ []
range-suc a zero = ap (λ k. k ∷ []) (sym (add-zero a))
range-suc a (suc n) =
    let last : a + 1 + n ≡ a + suc n = omega arith in
    ap (λ (ks : List ℕ). a ∷ ks) (range-suc (a + 1) n ∙ ap (λ k. range_with_len (a + 1) n ++ k ∷ []) last)

range-more : (n more last : ℕ) → more ≡ suc n → 1 + n ≡ last → range_with_len 1 more ≡ range_with_len 1 n ++ last ∷ []
range-more n more last next number = ap (range_with_len 1) next ∙ range-suc 1 n ∙ ap (λ k. range_with_len 1 n ++ k ∷ []) number

pub left-more : (n s : ℕ) (old new : System) → old ≡ left_below n s → new ≡ with_last old (next_step s) → new ≡ left_below n (s + 1)
left-more n s old new before more =
    more ∙ ap (λ (system : System). with_last system (next_step s)) before
    ∙ ap (λ steps. with_all (left_below n s) steps) (sym (map-range_with_len_more next_step 0 s s (omega arith)))

pub right-more : (n s : ℕ) (old mid new : System) → 1 ≤ s → old ≡ right_below n s → mid ≡ with_last old (next_step s)
    → new ≡ with_last mid (next_step (n + s)) → new ≡ right_below n (s + 1)
right-more n s old mid new some before one other =
    let first : List Step = step 0 (codes "a") 1 ∷ step 0 (codes "a") (n + 1) ∷ [] in
    let numbers : range_with_len 1 (s + 1 - 1) ≡ range_with_len 1 (s - 1) ++ s ∷ [] = range-more (s - 1) (s + 1 - 1) s (omega (arith, some))
    (omega (arith, some)) in
    grown_by_two old mid new (next_step s) (next_step (n + s)) one other
    ∙ ap (λ (system : System). with_all system (system.steps ++ next_steps n s)) before
    ∙ ap (λ steps. with_all (right_below n s) steps)
    (flat_map_more (next_steps n) first (range_with_len 1 (s - 1)) s ∙ ap (λ (ks : List ℕ). first ++ flat_map (next_steps n) ks) (sym numbers))

-- with the choice
pub left-whole : (n s : ℕ) (old mid new : System) → s ≡ n → old ≡ left_below n s → mid ≡ with_last old (step n (codes "b") (n + 1))
    → new ≡ with_last mid (step n (codes "c") (n + 1)) → new ≡ demo_left n
left-whole n s old mid new end before first second =
    grown_by_two old mid new (step n (codes "b") (n + 1)) (step n (codes "c") (n + 1)) first second ∙ rw (before, end) refl

pub right-whole : (n s : ℕ) (old mid new : System) → s ≡ n → old ≡ right_below n s → mid ≡ with_last old (step n (codes "b") (2 * n + 1))
    → new ≡ with_last mid (step (2 * n) (codes "c") (2 * n + 1)) → new ≡ demo_right n
right-whole n s old mid new end before first second =
    grown_by_two old mid new (step n (codes "b") (2 * n + 1)) (step (2 * n) (codes "c") (2 * n + 1)) first second ∙ rw (before, end) refl
