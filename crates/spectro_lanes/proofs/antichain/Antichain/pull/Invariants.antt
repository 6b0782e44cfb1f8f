use Rattle.std.proofs.Common.{◌≡◌, map, take}
use Rattle.spectro_game.specs.MinimalElements.{minimal_elements}
use Rattle.spectro_game.specs.Update.{inverse}
use Rattle.spectro_energy.specs.Updates.{update_of}
use Rattle.spectro_lanes.proofs.antichain.Antichain.pull.Given as goal

abbrev pub invariant-loop-k : goal.invariant-loop-k
invariant-loop-k l = l.made ≡ minimal_elements (map (inverse (update_of l.update)) (take l.k l.self))
