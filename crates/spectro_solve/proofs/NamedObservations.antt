-- The observed pairs and their labels, side by side: each place has a step under its label, and each step has a place.
use Rattle.std.proofs.Common.{ℕ, ◌≡◌, inl, inr, List, [], ◌∷◌, ◌++◌, Option, map, flat_map, refl, sym, ap, subst, ◌∙◌, option_map, Some, None, slice_get}
use Rattle.std.proofs.lemmas.Option.{slice_get-map}
use Rattle.std.proofs.lemmas.List.{map-append}
use Rattle.spectro_spec.specs.System.{Label, System, HasStep, post}
use Rattle.spectro_spec.specs.LabelOrder.{labels_from}
use Rattle.spectro_spec.proofs.Membership.{Contains-flat_map, Contains-flat_map_cases, Contains-map, Contains-map_cases}
use Rattle.spectro_spec.proofs.Members.{Contains-first, Contains-cases, Contains-none}
use Rattle.spectro_game.specs.Pairs.{Pair, observed, observed_under}
use Rattle.spectro_game.specs.Reached.{StandsAt}
use Rattle.spectro_theory.proofs.Places.{StandsIn-member, Contains-stands, stands-map, stands-one}
use Rattle.spectro_theory.proofs.StepLabels.{labels_from-AreStepLabels}
use Rattle.spectro_theory.proofs.Successors.{post-AreSuccessors}
use Rattle.spectro_pairs.specs.Explored.{observed_labels}

-- a pair and the label under which it is observed
record Named : Type 0 where
  pub label : Label
  pub pair : Pair

abbrev named_under : System → Pair → Label → List Named
named_under system x label = map (λ t. record { label = label; pair = record { state = t; set = post system x.set label } }) (post system (x.state ∷ []) label)

abbrev named : System → Pair → List Named
named system x = flat_map (named_under system x) (labels_from system.steps x.state)

-- what stands at a place of a list that is made of another one
stands-made : {X Y : Type 0} (f : X → Y) (xs : List X) (i : ℕ) (y : Y) → StandsAt (map f xs) i y → (x : X) × StandsAt xs i x × (f x ≡ y)
stands-made {X} f xs i y here = go (slice_get xs i) refl
  where
    go : (o : Option X) → slice_get xs i ≡ o → (x : X) × StandsAt xs i x × (f x ≡ y)
    go None is = absurd (let none : None ≡ Some y = sym (slice_get-map f xs i ∙ ap (option_map f) is) ∙ here in cc)
    go (Some x) is = (x, is, let some : Some (f x) ≡ Some y = sym (slice_get-map f xs i ∙ ap (option_map f) is) ∙ here in cc)

map-flat : {X Y Z : Type 0} (g : Y → Z) (f : X → List Y) (h : X → List Z) → ((x : X) → map g (f x) ≡ h x) → (xs : List X)
    → map g (flat_map f xs) ≡ flat_map h xs
map-flat g f h same [] = refl
map-flat g f h same (x ∷ xs) = map-append g (f x) (flat_map f xs) ∙ (λ i. same x i ++ map-flat g f h same xs i)

map-both : {X Y Z : Type 0} (g : Y → Z) (f : X → Y) (xs : List X) → map g (map f xs) ≡ map (λ x. g (f x)) xs
map-both g f [] = refl
map-both g f (x ∷ xs) = ap (λ l. g (f x) ∷ l) (map-both g f xs)

pairs_of-named : (system : System) (x : Pair) → map (λ (n : Named). n.pair) (named system x) ≡ observed system x
unfolding post
pairs_of-named system x = map-flat (λ (n : Named). n.pair) (named_under system x) (observed_under system x)
    (λ label. map-both (λ (n : Named). n.pair) (λ t. record { label = label; pair = record { state = t; set = post system x.set label } })
    (post system (x.state ∷ []) label)) (labels_from system.steps x.state)

labels_of-named : (system : System) (x : Pair) → map (λ (n : Named). n.label) (named system x) ≡ observed_labels system x
unfolding observed_labels post
labels_of-named system x = map-flat (λ (n : Named). n.label) (named_under system x) (λ label. map (λ t. label) (post system (x.state ∷ []) label))
    (λ label. map-both (λ (n : Named). n.label) (λ t. record { label = label; pair = record { state = t; set = post system x.set label } })
    (post system (x.state ∷ []) label)) (labels_from system.steps x.state)

-- the pair and the label at a place come of a step
pub observed-step : (system : System) (x y : Pair) (label : Label) (i : ℕ) → StandsAt (observed system x) i y → StandsAt (observed_labels system x) i label
    → HasStep system x.state label y.state × (y.set ≡ post system x.set label)
observed-step system x y label i here labelled =
    let n = stands-made (λ (n : Named). n.pair) (named system x) i y (subst (λ l. StandsAt l i y) (sym (pairs_of-named system x)) here) in
    let m = stands-made (λ (n : Named). n.label) (named system x) i label (subst (λ l. StandsAt l i label) (sym (labels_of-named system x)) labelled) in
    let one : n.0 ≡ m.0 = stands-one (named system x) i n.0 m.0 n.1 m.1 in
    let found = Contains-flat_map_cases (named_under system x) (labels_from system.steps x.state) n.0 (Contains-stands (named system x) n.0 (i, n.1)) in
    let target = Contains-map_cases (λ t. record { label = found.0; pair = record { state = t; set = post system x.set found.0 } })
    (post system (x.state ∷ []) found.0) n.0 found.2 in
    let step = (post-AreSuccessors system (x.state ∷ []) found.0).targets target.0 target.1 in
    let own : x.state ≡ step.0 = elim (Contains-cases x.state [] step.0 step.1) [ inl is ↦ is | inr none ↦ absurd (Contains-none step.0 none) ] in
    let is_label : found.0 ≡ label = ap (λ (z : Named). z.label) target.2 ∙ ap (λ (z : Named). z.label) one ∙ m.2 in
    let is_pair : record { state = target.0; set = post system x.set found.0 } ≡ y = ap (λ (z : Named). z.pair) target.2 ∙ n.2 in (
      subst (λ q. HasStep system q label y.state) (sym own) (subst (λ l. HasStep system step.0 l y.state) is_label
          (subst (λ t. HasStep system step.0 found.0 t) (ap (λ (z : Pair). z.state) is_pair) step.2)),
      ap (λ (z : Pair). z.set) (sym is_pair) ∙ ap (post system x.set) is_label,
    )

-- a step has a place, where its pair and its label stand
pub step-observed : (system : System) (x : Pair) (label : Label) (t : ℕ) → HasStep system x.state label t
    → (i : ℕ) × StandsAt (observed system x) i (record { state = t; set = post system x.set label }) × StandsAt (observed_labels system x) i label
step-observed system x label t step =
    let n : Named = record { label = label; pair = record { state = t; set = post system x.set label } } in
    let within = (labels_from-AreStepLabels system x.state).has label t step in
    let target = (post-AreSuccessors system (x.state ∷ []) label).has x.state t (Contains-first x.state []) step in
    let place = StandsIn-member (named system x) n (Contains-flat_map (named_under system x) (labels_from system.steps x.state) label n within
    (Contains-map (λ s. record { label = label; pair = record { state = s; set = post system x.set label } }) (post system (x.state ∷ []) label) t target)) in (
      place.0,
      subst (λ l. StandsAt l place.0 n.pair) (pairs_of-named system x) (stands-map (λ (m : Named). m.pair) (named system x) place.0 n place.1),
      subst (λ l. StandsAt l place.0 label) (labels_of-named system x) (stands-map (λ (m : Named). m.label) (named system x) place.0 n place.1),
    )
