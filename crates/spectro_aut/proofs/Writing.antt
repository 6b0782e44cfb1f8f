-- The text of a system in the pieces in which it is written.
use Rattle.std.proofs.Common.{◌≡◌, ◌∙◌, ℕ, ◌+◌, List, ◌++◌, take, drop, ap, subst}
use Rattle.std.specs.Prelude.{slice_get, Some}
use Rattle.std.specs.List.{flat_map}
use Rattle.std.proofs.lemmas.Option.{slice_get_within, get_or_from_slice_get}
use Rattle.spectro_spec.specs.System.{Label, Step}
use Rattle.spectro_io.proofs.Rows.{row-more, row-stopped}
use Rattle.spectro_lts.specs.Labels.{labels_of, IsStepAt}
use Rattle.spectro_aut.specs.Written.{step_text}

-- the step at a place, with the text that its label has
pub step-at : (steps : List Step) (place source label_no target : ℕ) (label : Label) → IsStepAt steps place source label_no target
    → slice_get (labels_of steps) label_no ≡ Some label
    → slice_get steps place ≡ Some (record { source = source; label = label; target = target })
step-at steps place source label_no target label step named =
    let same : step.label ≡ label = let numbered = step.numbered in cc in
    step.found ∙ ap (λ label. Some (record { source = source; label = label; target = target })) same

-- the text of one step more
pub steps-more : (front : List ℕ) (steps : List Step) (place : ℕ) (step : Step) → slice_get steps place ≡ Some step
    → (front ++ flat_map step_text (take place steps)) ++ step_text step ≡ front ++ flat_map step_text (take (place + 1) steps)
steps-more front steps place step found =
    subst (λ last. (front ++ flat_map step_text (take place steps)) ++ step_text last ≡ front ++ flat_map step_text (take (place + 1) steps))
    (get_or_from_slice_get steps place step step found)
    (row-more step_text front steps place step (slice_get_within steps place step found))

-- the text up to a step, and the text of the steps after it
pub steps-parts : (front : List ℕ) (steps : List Step) (place : ℕ) (step : Step) → slice_get steps place ≡ Some step
    → front ++ flat_map step_text steps ≡ ((front ++ flat_map step_text (take place steps)) ++ step_text step) ++ flat_map step_text (drop (place + 1) steps)
steps-parts front steps place step found =
    subst (λ last. front ++ flat_map step_text steps ≡ ((front ++ flat_map step_text (take place steps)) ++ step_text last) ++ flat_map step_text
    (drop (place + 1) steps)) (get_or_from_slice_get steps place step step found)
    (row-stopped step_text front steps place step (slice_get_within steps place step found))
