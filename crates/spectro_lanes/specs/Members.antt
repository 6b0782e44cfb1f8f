-- What the members of an antichain are kept in.
use Rattle.std.specs.Prelude.{List, [], ◌∷◌}
use Rattle.spectro_spec.specs.Price.{Price}
use Rattle.spectro_energy.specs.Energy.{price_of}
use Rattle.spectro_lanes.specs.declared.members.Members.{Members}
use Rattle.spectro_lanes.specs.declared.members.Members.TheVariants.{Empty, One, Many}

-- their prices, in order
abbrev pub prices_held : Members → List Price
prices_held Empty = []
prices_held (One e) = price_of e.parts ∷ []
prices_held (Many es) = es
