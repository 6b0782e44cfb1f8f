use Rattle.std.proofs.Common.{◌≡◌, ◌++◌, List, map, take}
use Rattle.spectro_spec.specs.Price.{Price}
use Rattle.spectro_game.specs.MinimalElements.{minimal_elements}
use Rattle.spectro_game.specs.Sup.{sup}
use Rattle.spectro_energy.specs.Energy.{price_of}
use Rattle.spectro_lanes.proofs.antichain.insert_sups.Given as goal

abbrev pub invariant-loop-k : goal.invariant-loop-k
invariant-loop-k l = (es : List Price) → l.fn.made ≡ minimal_elements es → l.made ≡ minimal_elements (es ++ map (sup (price_of l.e.parts)) (take l.k l.others))
