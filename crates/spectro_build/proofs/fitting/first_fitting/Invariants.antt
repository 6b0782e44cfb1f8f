use Rattle.std.proofs.Common.{◌≡◌, ℕ, ◌<◌, false}
use Rattle.spectro_spec.specs.Price.{Price}
use Rattle.spectro_game.specs.MinimalElements.{is_at_most}
use Rattle.spectro_game.specs.Reached.{StandsAt}
use Rattle.spectro_energy.specs.Energy.{price_of}
use Rattle.spectro_build.specs.Roles.{cost_in}
use Rattle.spectro_build.proofs.fitting.first_fitting.Given as goal

-- no earlier price fits
abbrev pub invariant-loop-place : goal.invariant-loop-place
invariant-loop-place l = (k : ℕ) (f : Price) → k < l.place → StandsAt l.prices k f → is_at_most (cost_in l.role f) (price_of l.e.parts) ≡ false
