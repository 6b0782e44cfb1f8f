-- The three ways in which a pair follows another: after a step from its state, with a subset that is not empty, and as
-- another member against its state.
use Rattle.std.proofs.Common.{◌≡◌, ◌≢◌, ◌∙◌, ◌⊎◌, inl, inr, ℕ, ◌==◌, List, [], ◌∷◌, ◌++◌, drop, refl, sym, ap, subst, Contains, Bool, true, false, not}
use Rattle.std.specs.Prelude.{◌↔◌}
use Rattle.std.proofs.lemmas.Bool.{eqb-false, ne_eqb}
use Rattle.std.proofs.lemmas.List.Elements.{Contains-append_left, Contains-append_right, Contains-append_cases}
use Rattle.spectro_spec.specs.System.{Label, System, HasStep, post}
use Rattle.spectro_spec.specs.LabelOrder.{labels_from}
use Rattle.spectro_spec.proofs.Members.{Contains-first, Contains-later, Contains-cases, Contains-none}
use Rattle.spectro_game.specs.Divisions.{IsDivided, Division, divisions}
use Rattle.spectro_game.specs.Pairs.{Pair, observed_under, observed, subsets, swaps, followers, IsFollower, IsClosed}
use Rattle.spectro_theory.specs.LawsOfPairs.{FollowsByCase}
use Rattle.spectro_spec.proofs.Membership.{Contains-map, Contains-map_cases, Contains-flat_map, Contains-flat_map_cases, Contains-filter, Contains-filter_cases}
use Rattle.spectro_spec.proofs.LabelOrder.{Contains-labels_from}
use Rattle.spectro_spec.proofs.Successors.{Contains-post, post-has}
use Rattle.spectro_theory.proofs.DivisionLists.{divisions-Divides, later_divisions-TakesSome, Contains-later_divisions}
use Rattle.spectro_theory.proofs.Closures.{IsClosedByCases}

pub follows_observed : (system : System) (p : ℕ) (qs : List ℕ) (label : Label) (t : ℕ) → HasStep system p label t
    → IsFollower system p qs t (post system qs label)
unfolding followers
follows_observed system p qs label t step =
    let x : Pair = record { state = p; set = qs } in
    let y : Pair = record { state = t; set = post system qs label } in
    let after : Contains (post system (p ∷ []) label) t = post-has system (p ∷ []) label p t (Contains-first p []) step in
    Contains-append_left (observed system x) (subsets x ++ swaps x) y
    (Contains-flat_map (observed_under system x) (labels_from system.steps p) label y (Contains-labels_from system.steps p label t step)
    (Contains-map (λ s. record { state = s; set = post system qs label }) (post system (p ∷ []) label) t after))

pub follows_subset : (system : System) (p : ℕ) (qs left right : List ℕ) → left ≢ [] → IsDivided qs left right → IsFollower system p qs p left
unfolding followers
follows_subset system p qs left right some divided =
    let x : Pair = record { state = p; set = qs } in
    let y : Pair = record { state = p; set = left } in
    Contains-append_right (observed system x) (subsets x ++ swaps x) y
    (Contains-append_left (subsets x) (swaps x) y
    (Contains-map (λ (d : Division). record { state = p; set = d.left }) (drop 1 (divisions qs)) (record { left = left; right = right })
    (Contains-later_divisions some divided)))

not-from_false : (b : Bool) → b ≡ false → not b ≡ true
not-from_false true e = cc
not-from_false false e = refl

not-true : (b : Bool) → not b ≡ true → b ≡ false
not-true true e = cc
not-true false e = refl

pub follows_swapped : (system : System) (p : ℕ) (qs : List ℕ) (q : ℕ) → Contains qs q → p ≢ q → IsFollower system p qs q (p ∷ [])
unfolding followers
follows_swapped system p qs q member differ =
    let x : Pair = record { state = p; set = qs } in
    let y : Pair = record { state = q; set = p ∷ [] } in
    let kept : not (q == p) ≡ true = not-from_false (q == p) (ne_eqb q p (λ e. differ (sym e))) in
    Contains-append_right (observed system x) (subsets x ++ swaps x) y
    (Contains-append_right (subsets x) (swaps x) y
    (Contains-map (λ s. record { state = s; set = p ∷ [] }) _ q (Contains-filter (λ s. not (s == p)) qs q member kept)))

after_step : (system : System) (p : ℕ) (qs : List ℕ) (p' : ℕ) (qs' : List ℕ)
    → Contains (observed system (record { state = p; set = qs })) (record { state = p'; set = qs' })
    → (label : Label) × HasStep system p label p' × (qs' ≡ post system qs label)
after_step system p qs p' qs' member =
    let found = Contains-flat_map_cases (observed_under system (record { state = p; set = qs })) (labels_from system.steps p)
    (record { state = p'; set = qs' }) member in
    let target = Contains-map_cases (λ s. record { state = s; set = post system qs found.0 }) (post system (p ∷ []) found.0)
    (record { state = p'; set = qs' }) found.2 in
    let from = Contains-post system (p ∷ []) found.0 target.0 target.1 in
    let source : p ≡ from.0 = only p from.0 (Contains-cases p [] from.0 from.1) in
    let step : HasStep system p found.0 target.0 = subst (λ s. HasStep system s found.0 target.0) (sym source) from.2 in
    (found.0, subst (λ t. HasStep system p found.0 t) (ap (λ (y : Pair). y.state) target.2) step, sym (ap (λ (y : Pair). y.set) target.2))
  where
    only : (p s : ℕ) → (p ≡ s) ⊎ Contains [] s → p ≡ s
    only p s (inl e) = e
    only p s (inr none) = absurd (Contains-none s none)

as_subset : (p : ℕ) (qs : List ℕ) (p' : ℕ) (qs' : List ℕ) → Contains (subsets (record { state = p; set = qs })) (record { state = p'; set = qs' })
    → (p' ≡ p) × (qs' ≢ []) × ((right : List ℕ) × IsDivided qs qs' right)
as_subset p qs p' qs' member =
    let found = Contains-map_cases (λ (d : Division). record { state = p; set = d.left }) (drop 1 (divisions qs)) (record { state = p'; set = qs' }) member in
    let set : found.0.left ≡ qs' = ap (λ (y : Pair). y.set) found.2 in
    let divided = divisions-Divides qs found.0 (later_division qs found.0 found.1) in (
      sym (ap (λ (y : Pair). y.state) found.2),
      subst (λ left. left ≢ []) set (later_divisions-TakesSome qs found.0 found.1),
      (found.0.right, subst (λ left. IsDivided qs left found.0.right) set divided),
    )
  where
    later_division : (qs : List ℕ) (d : Division) → Contains (drop 1 (divisions qs)) d → Contains (divisions qs) d
    later_division qs d later = elim (divisions qs) as (λ ds. Contains (drop 1 ds) d
        → Contains ds d) [ [] ↦ λ h. h | e ∷ ds ↦ λ h. Contains-later e ds d h ] later

as_swap : (p : ℕ) (qs : List ℕ) (p' : ℕ) (qs' : List ℕ) → Contains (swaps (record { state = p; set = qs })) (record { state = p'; set = qs' })
    → Contains qs p' × (p ≢ p') × (qs' ≡ p ∷ [])
as_swap p qs p' qs' member =
    let found = Contains-map_cases (λ s. record { state = s; set = p ∷ [] }) _ (record { state = p'; set = qs' }) member in
    let kept = Contains-filter_cases (λ s. not (s == p)) qs found.0 found.1 in
    let state : found.0 ≡ p' = ap (λ (y : Pair). y.state) found.2 in
    (subst (Contains qs) state kept.0, (λ e. eqb-false found.0 p (not-true (found.0 == p) kept.1) (state ∙ sym e)), sym (ap (λ (y : Pair). y.set) found.2))

follower-cases : (system : System) (p : ℕ) (qs : List ℕ) (p' : ℕ) (qs' : List ℕ) → IsFollower system p qs p' qs' → FollowsByCase system p qs p' qs'
unfolding followers
follower-cases system p qs p' qs' member =
    let x : Pair = record { state = p; set = qs } in
    let y : Pair = record { state = p'; set = qs' } in
    elim (Contains-append_cases (observed system x) (subsets x ++ swaps x) y member) [
      | inl h ↦ inl (after_step system p qs p' qs' h)
      | inr h ↦ elim (Contains-append_cases (subsets x) (swaps x) y h) [
        | inl g ↦ inr (inl (as_subset p qs p' qs' g))
        | inr g ↦ inr (inr (as_swap p qs p' qs' g))
      ]
    ]

follows_by_case : (system : System) (p : ℕ) (qs : List ℕ) (p' : ℕ) (qs' : List ℕ) → FollowsByCase system p qs p' qs' → IsFollower system p qs p' qs'
follows_by_case system p qs p' qs' (inl (label, step, e)) = subst (IsFollower system p qs p') (sym e) (follows_observed system p qs label p' step)
follows_by_case system p qs p' qs' (inr (inl (e, some, (right, divided)))) = subst (λ s. IsFollower system p qs s qs') (sym e)
    (follows_subset system p qs qs' right some divided)
follows_by_case system p qs p' qs' (inr (inr (member, differ, e))) = subst (IsFollower system p qs p') (sym e) (follows_swapped system p qs p' member differ)

pub IsFollower-iff : (system : System) (p : ℕ) (qs : List ℕ) (p' : ℕ) (qs' : List ℕ) → IsFollower system p qs p' qs' ↔ FollowsByCase system p qs p' qs'
IsFollower-iff system p qs p' qs' = (follower-cases system p qs p' qs', follows_by_case system p qs p' qs')

-- what has each follower is closed in each of these ways
pub closed_by_cases : (system : System) (known : ℕ → List ℕ → Type 0) → IsClosed system known → IsClosedByCases system known
closed_by_cases system known closed = record {
  observed = λ p qs label t here step. closed p qs t (post system qs label) here (follows_observed system p qs label t step);
  subset = λ p qs left right here some divided. closed p qs p left here (follows_subset system p qs left right some divided);
  swapped = λ p qs q here member differ. closed p qs q (p ∷ []) here (follows_swapped system p qs q member differ);
}
