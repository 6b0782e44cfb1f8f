-- What an update leaves of an energy.
use Rattle.std.specs.Prelude.{Option, None, Some}
use Rattle.spectro_spec.specs.Price.{Price, IsAtMost}

-- there is an energy, and f is at most it
abbrev pub Leaves : Option Price → Price → Type 0
Leaves None f = ⊥
Leaves (Some e) f = IsAtMost f e
