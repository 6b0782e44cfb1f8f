-- What is observed under the labels so far.
use Rattle.std.proofs.Common.{[], ◌∷◌, map, take}
use Rattle.std.specs.List.{flat_map}
use Rattle.spectro_spec.specs.System.{post}
use Rattle.spectro_lts.specs.Labels.{label_of}
use Rattle.spectro_pairs.specs.Growth.{ArePosts, HasReached, observed_with}
use Rattle.spectro_pairs.proofs.exploration.Exploration.add_observations.Given as goal

abbrev pub invariant-loop-i : goal.invariant-loop-i
invariant-loop-i l = record {
  reached :
      HasReached l.fn.self l.self (flat_map (λ label_no. observed_with l.lts l.state l.set label_no) (take l.i l.no-items))
      (flat_map (λ label_no. map (λ t. label_no) (post l.lts (l.state ∷ []) (label_of l.lts.steps label_no))) (take l.i l.no-items));
  posts : ArePosts l.lts l.self;
}
