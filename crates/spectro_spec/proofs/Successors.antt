-- The successors of a set are where the steps under the label lead from its members, and they rise.
use Rattle.std.proofs.Common.{ℕ, ◌≡◌, ◌==◌, ◌&&◌, ◌<◌, List, [], ◌∷◌, filter, flat_map, refl, sym, subst, Contains, Bool, All}
use Rattle.std.specs.List.{list_any}
use Rattle.std.specs.List.Sorted.{IsStrictlyIncreasing}
use Rattle.std.specs.Str.{bytes_eq}
use Rattle.std.proofs.lemmas.Bool.{eqb-true, eq-eqb, and_parts, and_from}
use Rattle.std.proofs.lemmas.Slice.Eq.{bytes_eq-Decides}
use Rattle.std.proofs.lemmas.List.Elements.{All-contains, Contains-get_or}
use Rattle.spectro_spec.specs.System.{Label, Step, System, IsWhole, HasStep, rising, targets_of, post}
use Rattle.spectro_spec.proofs.Membership.{Contains-map, Contains-map_cases, Contains-flat_map, Contains-flat_map_cases, Contains-filter, Contains-filter_cases, list_any-has, list_any-cases}
use Rattle.spectro_spec.proofs.Rising.{Contains-rising, Contains-rising_cases, IsStrictlyIncreasing-rising, rising_is}
use Rattle.spectro_spec.proofs.Members.{Contains-first, only_member}

-- whether the step leads under the label from one of the set
abbrev leads_from : List ℕ → Label → Step → Bool
leads_from qs label step = list_any (λ q. q == step.source) qs && bytes_eq step.label label

Contains-targets_of_cases : (steps : List Step) (qs : List ℕ) (label : Label) (t : ℕ) → Contains (targets_of steps qs label) t
    → (q : ℕ) × Contains qs q × Contains steps (record { source = q; label = label; target = t })
Contains-targets_of_cases steps qs label t member =
    let found = Contains-map_cases (λ (step : Step). step.target) (filter (leads_from qs label) steps) t member in
    let kept = Contains-filter_cases (leads_from qs label) steps found.0 found.1 in
    let tests = and_parts (list_any (λ q. q == found.0.source) qs) (bytes_eq found.0.label label) kept.1 in
    let source = list_any-cases (λ q. q == found.0.source) qs tests.0 in
    let from : source.0 ≡ found.0.source = eqb-true source.0 found.0.source source.2 in
    let under : found.0.label ≡ label = (bytes_eq-Decides found.0.label label).0 tests.1 in
    (source.0, source.1, subst (λ x. Contains steps x) (λ i. record { source = sym from i; label = under i; target = found.2 i }) kept.0)

Contains-targets_of : (steps : List Step) (qs : List ℕ) (label : Label) (q t : ℕ) → Contains qs q
    → Contains steps (record { source = q; label = label; target = t }) → Contains (targets_of steps qs label) t
Contains-targets_of steps qs label q t member step =
    let x : Step = record { source = q; label = label; target = t } in
    let kept = Contains-filter (leads_from qs label) steps x step
    (and_from (list_any (λ r. r == q) qs) (bytes_eq label label) (list_any-has (λ r. r == q) qs q member (eq-eqb q q refl))
    ((bytes_eq-Decides label label).1 refl)) in
    Contains-map (λ (y : Step). y.target) (filter (leads_from qs label) steps) x kept

pub Contains-post : (system : System) (qs : List ℕ) (label : Label) (t : ℕ) → Contains (post system qs label) t
    → (q : ℕ) × Contains qs q × HasStep system q label t
unfolding post
Contains-post system qs label t member =
    Contains-targets_of_cases system.steps qs label t (Contains-rising_cases (targets_of system.steps qs label) t member)

pub post-has : (system : System) (qs : List ℕ) (label : Label) (q t : ℕ) → Contains qs q → HasStep system q label t
    → Contains (post system qs label) t
unfolding post
post-has system qs label q t member step =
    Contains-rising (targets_of system.steps qs label) t (Contains-targets_of system.steps qs label q t member step)

pub post-rises : (system : System) (qs : List ℕ) (label : Label) → IsStrictlyIncreasing (post system qs label)
unfolding post
post-rises system qs label = IsStrictlyIncreasing-rising (targets_of system.steps qs label)

-- the successors of each member, put in rising order, are those of the set
pub post-by_member : (system : System) (qs : List ℕ) (label : Label) → rising (flat_map (λ q. post system (q ∷ []) label) qs) ≡ post system qs label
post-by_member system qs label = sym (rising_is (post system qs label) (flat_map (λ q. post system (q ∷ []) label) qs) (post-rises system qs label)
    (λ t member.
    let from = Contains-post system qs label t member in
    Contains-flat_map (λ q. post system (q ∷ []) label) qs from.0 t from.1 (post-has system (from.0 ∷ []) label from.0 t (Contains-first from.0 []) from.2))
    (λ t member.
    let found = Contains-flat_map_cases (λ q. post system (q ∷ []) label) qs t member in
    let from = Contains-post system (found.0 ∷ []) label t found.2 in
    let step : HasStep system found.0 label t = only_member (λ q. HasStep system q label t
    → HasStep system found.0 label t) found.0 from.0 (λ h. h) from.1 from.2 in
    post-has system qs label found.0 t found.1 step))

-- they are states of the system
pub post-below : (system : System) (qs : List ℕ) (label : Label) → IsWhole system → All (λ t. t < system.states) (post system qs label)
post-below system qs label whole k default within =
    let from = Contains-post system qs label _ (Contains-get_or (post system qs label) k default within) in
    All-contains (λ (step : Step). step.target < system.states) system.steps _ whole.targets from.2
