-- The weights of the labels so far.
use Rattle.std.proofs.Common.{◌≡◌, map, take}
use Rattle.spectro_spec.specs.Weighing.{weight_of}
use Rattle.spectro_lts.specs.Labels.{labels_of}
use Rattle.spectro_pairs.proofs.reaching.label_weights.Given as goal

abbrev pub invariant-loop-no : goal.invariant-loop-no
invariant-loop-no l = l.bytes.items ≡ map (weight_of l.weights) (take l.no (labels_of l.lts.steps))
