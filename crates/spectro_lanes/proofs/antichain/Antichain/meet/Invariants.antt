use Rattle.std.proofs.Common.{◌≡◌, map, take}
use Rattle.std.specs.List.{flat_map}
use Rattle.spectro_game.specs.MinimalElements.{minimal_elements}
use Rattle.spectro_game.specs.Sup.{sup}
use Rattle.spectro_lanes.proofs.antichain.Antichain.meet.Given as goal

abbrev pub invariant-loop-k : goal.invariant-loop-k
invariant-loop-k l = l.made ≡ minimal_elements (flat_map (λ e. map (sup e) l.other) (take l.k l.self))
