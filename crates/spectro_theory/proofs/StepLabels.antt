-- The labels of a state are as the law says.
use Rattle.std.proofs.Common.{ℕ, List, [], ◌∷◌}
use Rattle.spectro_spec.specs.System.{Label, System}
use Rattle.spectro_spec.specs.LabelOrder.{labels_from}
use Rattle.spectro_spec.proofs.LabelOrder.{AreInOrder, comes_first, labels_from-in_order, labels_from-steps, Contains-labels_from}
use Rattle.spectro_theory.specs.LawsOfSystems.{RiseByBytes, AreStepLabels}

rise-in_order : (labels : List Label) → AreInOrder labels → RiseByBytes labels
rise-in_order [] h = tt
rise-in_order (label ∷ labels) h = (comes_first label labels h, rise-in_order labels h.1)

pub labels_from-AreStepLabels : (system : System) (p : ℕ) → AreStepLabels system p (labels_from system.steps p)
labels_from-AreStepLabels system p = record {
  rises = rise-in_order (labels_from system.steps p) (labels_from-in_order system.steps p);
  steps = labels_from-steps system.steps p;
  has = Contains-labels_from system.steps p;
}
