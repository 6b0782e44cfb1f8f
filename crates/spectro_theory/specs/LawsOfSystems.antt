-- Laws of the labels and the successors of states.
use Rattle.std.specs.Prelude.{ℕ, ◌≡◌, true, List, [], ◌∷◌, Contains}
use Rattle.std.specs.List.Sorted.{IsStrictlyIncreasing}
use Rattle.spectro_spec.specs.System.{Label, System, HasStep, post}
use Rattle.spectro_spec.specs.LabelOrder.{is_before_text, labels_from}

-- the successors of a set rise, and are the targets of the steps under the label from its members
pub record AreSuccessors (system : System) (qs : List ℕ) (label : Label) (ts : List ℕ) : Type 0 where
  pub rises : IsStrictlyIncreasing ts
  pub targets : (t : ℕ) → Contains ts t → (q : ℕ) × Contains qs q × HasStep system q label t
  pub has : (q t : ℕ) → Contains qs q → HasStep system q label t → Contains ts t

abbrev pub PostHasTheSuccessors : Type 0
PostHasTheSuccessors = (system : System) (qs : List ℕ) (label : Label) → AreSuccessors system qs label (post system qs label)

-- each label comes before all later ones in the order of bytes
abbrev pub RiseByBytes : List Label → Type 0
RiseByBytes [] = Unit {0}
RiseByBytes (label ∷ labels) = ((other : Label) → Contains labels other → is_before_text label other ≡ true) × RiseByBytes labels

-- the labels of a state rise by bytes, and are those of the steps from it
pub record AreStepLabels (system : System) (p : ℕ) (labels : List Label) : Type 0 where
  pub rises : RiseByBytes labels
  pub steps : (label : Label) → Contains labels label → (t : ℕ) × HasStep system p label t
  pub has : (label : Label) (t : ℕ) → HasStep system p label t → Contains labels label

abbrev pub LabelsFromAreThoseOfTheSteps : Type 0
LabelsFromAreThoseOfTheSteps = (system : System) (p : ℕ) → AreStepLabels system p (labels_from system.steps p)
