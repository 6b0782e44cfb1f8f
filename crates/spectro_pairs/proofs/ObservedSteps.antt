-- No pair has more observations than the system has steps: each step is counted under one label.
use Rattle.std.proofs.Common.{ℕ, ◌+◌, ◌≤◌, ◌≡◌, List, [], ◌∷◌, length, map, refl, sym, ◌∙◌, subst, arith, Bool, true, false, cond, ◌&&◌, length-append}
use Rattle.std.specs.Prelude.{◌==◌}
use Rattle.std.specs.List.{filter, flat_map, list_any}
use Rattle.std.specs.Str.{bytes_eq}
use Rattle.std.proofs.lemmas.Bool.{true≢false}
use Rattle.std.proofs.lemmas.List.{length-map}
use Rattle.std.proofs.lemmas.Slice.Eq.{bytes_eq-Decides}
use Rattle.spectro_spec.specs.System.{Label, Step, System, targets_of, post}
use Rattle.spectro_spec.specs.LabelOrder.{is_before_text, labels_from}
use Rattle.spectro_spec.proofs.LabelOrder.{IsBeforeFirst, AreInOrder, before-chain, before-not_itself, labels_from-in_order}
use Rattle.spectro_spec.proofs.Rising.{length-rising}
use Rattle.spectro_game.specs.Pairs.{Pair, observed, observed_under}

-- ---- a step is counted under at most one of labels in order
hits : List Label → Label → ℕ
hits [] label = 0
hits (other ∷ others) label = cond (bytes_eq label other) 1 0 + hits others label

hits-below : (labels : List Label) (label : Label) → IsBeforeFirst label labels → AreInOrder labels → hits labels label ≡ 0
unfolding hits
hits-below [] label below h = refl
hits-below (other ∷ others) label below h = go (bytes_eq label other) refl (hits-below others label (first others h.0) h.1)
  where
    first : (labels : List Label) → IsBeforeFirst other labels → IsBeforeFirst label labels
    first [] next = tt
    first (third ∷ labels) next = before-chain label other third below next

    go : (same : Bool) → bytes_eq label other ≡ same → hits others label ≡ 0 → cond same 1 0 + hits others label ≡ 0
    go true is rest = absurd
        (true≢false (sym (subst (λ x. is_before_text label x ≡ true) (sym ((bytes_eq-Decides label other).0 is)) below) ∙ before-not_itself label))
    go false is rest = omega (arith, rest)

hits-one : (labels : List Label) (label : Label) → AreInOrder labels → hits labels label ≤ 1
unfolding hits
hits-one [] label h = omega arith
hits-one (other ∷ others) label h = go (bytes_eq label other) refl (hits-one others label h.1)
  where
    go : (same : Bool) → bytes_eq label other ≡ same → hits others label ≤ 1 → cond same 1 0 + hits others label ≤ 1
    go true is rest =
        let none : hits others label ≡ 0 = hits-below others label (subst (λ x. IsBeforeFirst x others) (sym ((bytes_eq-Decides label other).0 is)) h.0) h.1 in
        omega (arith, none)
    go false is rest = omega (arith, rest)

-- the steps from p under each of the labels
total : ℕ → List Label → List Step → ℕ
total p [] steps = 0
total p (label ∷ labels) steps = length (targets_of steps (p ∷ []) label) + total p labels steps

total-none : (p : ℕ) (labels : List Label) → total p labels [] ≡ 0
unfolding total
total-none p [] = refl
total-none p (label ∷ labels) = omega (arith, total-none p labels)

one-more : (p : ℕ) (label : Label) (step : Step) (steps : List Step)
    → length (targets_of (step ∷ steps) (p ∷ []) label) ≤ cond (bytes_eq step.label label) 1 0 + length (targets_of steps (p ∷ []) label)
one-more p label step steps = go (list_any (λ q. q == step.source) (p ∷ [])) (bytes_eq step.label label)
  where
    go : (from under : Bool)
        → length (map (λ (s : Step). s.target) (cond (from && under)
        (step ∷ filter (λ (s : Step). list_any (λ q. q == s.source) (p ∷ []) && bytes_eq s.label label) steps)
        (filter (λ (s : Step). list_any (λ q. q == s.source) (p ∷ []) && bytes_eq s.label label) steps)))
        ≤ cond under 1 0 + length (targets_of steps (p ∷ []) label)
    go true true = omega arith
    go true false = omega arith
    go false true = omega arith
    go false false = omega arith

total-more : (p : ℕ) (labels : List Label) (step : Step) (steps : List Step) → total p labels (step ∷ steps) ≤ hits labels step.label + total p labels steps
unfolding total hits
total-more p [] step steps = omega arith
total-more p (label ∷ labels) step steps = omega (arith, one-more p label step steps, total-more p labels step steps)

total-steps : (p : ℕ) (labels : List Label) (steps : List Step) → AreInOrder labels → total p labels steps ≤ length steps
total-steps p labels [] h = omega (arith, total-none p labels)
total-steps p labels (step ∷ steps) h = omega (arith, total-more p labels step steps, hits-one labels step.label h, total-steps p labels steps h)

-- ---- what is observed
length-observed_under : (system : System) (x : Pair) (label : Label)
    → length (observed_under system x label) ≤ length (targets_of system.steps (x.state ∷ []) label)
unfolding post
length-observed_under system x label =
    omega (
      arith,
      length-map {B = Pair} (post system (x.state ∷ []) label) (λ t. record { state = t; set = post system x.set label }),
      length-rising
          (targets_of system.steps (x.state ∷ []) label),
    )

length-under : (system : System) (x : Pair) (labels : List Label) → length (flat_map (observed_under system x) labels) ≤ total x.state labels system.steps
unfolding total
length-under system x [] = omega arith
length-under system x (label ∷ labels) =
    omega (
      arith,
      length-append (observed_under system x label)
          (flat_map (observed_under system x) labels),
      length-observed_under system x label,
      length-under system x labels,
    )

pub observed-steps : (system : System) (x : Pair) → length (observed system x) ≤ length system.steps
observed-steps system x =
    omega (
      arith,
      length-under system x (labels_from system.steps x.state),
      total-steps x.state (labels_from system.steps x.state) system.steps
          (labels_from-in_order system.steps x.state),
    )
