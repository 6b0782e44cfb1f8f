use Rattle.std.proofs.Common.{◌≢◌, ℕ, ◌<◌}
use Rattle.spectro_spec.specs.Price.{Price}
use Rattle.spectro_energy.specs.Energy.{price_of}
use Rattle.spectro_game.specs.Reached.{StandsAt}
use Rattle.spectro_build.proofs.wanted.key_of.Given as goal

-- no earlier price is the wanted one
abbrev pub invariant-loop-place : goal.invariant-loop-place
invariant-loop-place l = (k : ℕ) (f : Price) → k < l.place → StandsAt l.prices k f → f ≢ price_of l.one.price.parts
