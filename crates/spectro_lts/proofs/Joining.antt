-- A system that has grown by the first steps of another, with both ends of each moved up.
use Rattle.std.proofs.Common.{◌≡◌, ◌∙◌, ℕ, ◌+◌, ◌≤◌, List, [], ◌∷◌, ◌++◌, length, map, take, drop, take-append-drop, append_assoc, slice_get, Some, refl, sym, ap, subst, arith}
use Rattle.std.proofs.lemmas.List.{map-append, take_more}
use Rattle.std.proofs.lemmas.Option.{slice_get_within, get_or_from_slice_get}
use Rattle.spectro_spec.specs.System.{System, Step, Label, shifted, join}
use Rattle.spectro_lts.specs.Labels.{labels_of, IsStepAt}
use Rattle.spectro_lts.proofs.LabelLaws.{length-labels_of, length-labels_of_append}

-- the system with these steps, and with one step more
abbrev pub with_all : System → List Step → System
with_all system steps = record system { steps = steps }

abbrev pub with_last : System → Step → System
with_last system step = record system { steps = system.steps ++ step ∷ [] }

-- the system with more steps, moved up
abbrev pub grown : System → ℕ → List Step → System
grown system by steps = record system { steps = system.steps ++ map (shifted by) steps }

-- moved up by nothing a step is as it was
pub map-shifted-0 : (steps : List Step) → map (shifted 0) steps ≡ steps
map-shifted-0 [] = refl
map-shifted-0 (step ∷ steps) =
    let source : 0 + step.source ≡ step.source = omega arith in
    let target : 0 + step.target ≡ step.target = omega arith in
    rw (map-shifted-0 steps, source, target) refl

texts-shifted : (by : ℕ) (steps : List Step) → map (λ step. step.label) (map (shifted by) steps) ≡ map (λ step. step.label) steps
texts-shifted by [] = refl
texts-shifted by (step ∷ steps) = rw (texts-shifted by steps) refl

pub labels_of-shifted : (by : ℕ) (steps : List Step) → labels_of (map (shifted by) steps) ≡ labels_of steps
labels_of-shifted by steps = rw (texts-shifted by steps) refl

front : (steps : List Step) (k : ℕ) → length (labels_of (take k steps)) ≤ length (labels_of steps)
front steps k = subst (λ whole. length (labels_of (take k steps)) ≤ length (labels_of whole)) (take-append-drop k steps)
    (length-labels_of (take k steps) (drop k steps))

pub grown-few : (system : System) (by : ℕ) (steps : List Step) (k : ℕ) → length (labels_of system.steps) + length (labels_of steps) ≤ 131072
    → length (labels_of (grown system by (take k steps)).steps) ≤ 131072
grown-few system by steps k few =
    omega (arith, few, length-labels_of_append system.steps (map (shifted by) (take k steps)), ap length (labels_of-shifted by (take k steps)), front steps k)

-- it grows by one step more
pub grown-more : (system : System) (by : ℕ) (steps : List Step) (k from number to : ℕ) (label : Label) → IsStepAt steps k from number to
    → slice_get (labels_of steps) number ≡ Some label
    → (grown system by (take k steps)).steps ++ record { source = by + from; label = label; target = by + to } ∷ [] ≡
    (grown system by (take (k + 1) steps)).steps
grown-more system by steps k from number to label at named =
    let step : Step = record { source = from; label = label; target = to } in
    let same : at.label ≡ label = let found = at.numbered in cc in
    let here : slice_get steps k ≡ Some step = at.found ∙ ap (λ (label : Label). Some (record { source = from; label = label; target = to })) same in
    let longer : take (k + 1) steps ≡ take k steps ++ step ∷ [] = take_more steps k step (slice_get_within steps k step here)
    ∙ ap (λ (last : Step). take k steps ++ last ∷ []) (get_or_from_slice_get steps k step step here) in
    append_assoc system.steps (map (shifted by) (take k steps)) (shifted by step ∷ [])
    ∙ ap (λ more. system.steps ++ more) (sym (ap (map (shifted by)) longer ∙ map-append (shifted by) (take k steps) (step ∷ [])))

-- the left as it is, and the right moved up by its states, are the two side by side
pub joined : (left right begun first second : System) (shift states initial : ℕ) → shift ≡ left.states → states ≡ right.states → initial ≡ left.initial
    → begun ≡ record { states = shift + states; initial = initial; steps = [] }
    → first ≡ grown begun 0 left.steps → second ≡ grown first shift right.steps → second ≡ join left right
joined left right begun first second shift states initial same_shift same_states same_initial begin with_left with_right =
    with_right ∙ rw (with_left, begin, map-shifted-0 left.steps, same_shift, same_states, same_initial) refl
