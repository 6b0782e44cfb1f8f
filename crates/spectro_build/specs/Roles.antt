-- What a formula costs by what it is for.
use Rattle.spectro_spec.specs.Price.{Price}
use Rattle.spectro_game.specs.Update.{inverse, observe}
use Rattle.spectro_build.specs.Choices.{as_deepest, as_positive, as_negative}
use Rattle.spectro_build.specs.declared.role.Role.{Role}
use Rattle.spectro_build.specs.declared.role.Role.TheVariants.{AfterStep, Deepest, Positive, Negative}

-- the price of what is made of a formula of price f
abbrev pub cost_in : Role → Price → Price
cost_in (AfterStep weight) f = inverse (observe weight) f
cost_in Deepest f = as_deepest f
cost_in Positive f = as_positive f
cost_in Negative f = as_negative f
