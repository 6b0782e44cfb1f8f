-- The updates of the code as those of the game.
use Rattle.std.specs.Prelude.{◌+◌, ◌<◌, ◌^◌}
use Rattle.spectro_spec.specs.Price.{Price}
use Rattle.spectro_game.specs.Update as game
use Rattle.spectro_energy.specs.declared.update.Update.{Update}
use Rattle.spectro_energy.specs.declared.update.Update.TheVariants.{Observe, Conjoin, Deepest, Other, Positive, Negative}

abbrev pub update_of : Update → game.Update
update_of (Observe weight) = game.observe weight
update_of Conjoin = game.conjoin
update_of Deepest = game.to_deepest
update_of Other = game.to_other
update_of Positive = game.to_positive
update_of Negative = game.to_negative

-- the parts that the inverse adds to stay numbers of 32 bits
abbrev pub CanRaise : Update → Price → Type 0
CanRaise (Observe weight) e = (e.observations + 1 < 2 ^ 32) × (e.weighted_depth + weight < 2 ^ 32)
CanRaise Conjoin e = e.conjunctions + 1 < 2 ^ 32
CanRaise Deepest e = Unit {0}
CanRaise Other e = Unit {0}
CanRaise Positive e = Unit {0}
CanRaise Negative e = e.negations + 1 < 2 ^ 32
