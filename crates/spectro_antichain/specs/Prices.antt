-- The order of energies in an antichain.
use Rattle.std.specs.Prelude.{Bool}
use Rattle.spectro_spec.specs.Price.{parts}
use Rattle.spectro_game.specs.MinimalElements.{precedes}
use Rattle.spectro_energy.specs.Energy.{price_of}
use Rattle.spectro_energy.specs.declared.energy.Energy.{Energy}

-- whether the price of e comes before that of f
abbrev pub comes_first : Energy → Energy → Bool
comes_first e f = precedes (parts (price_of e.parts)) (parts (price_of f.parts))
