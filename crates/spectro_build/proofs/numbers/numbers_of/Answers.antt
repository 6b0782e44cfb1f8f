-- Each key is there.
use Rattle.std.proofs.Common.{get_or, arith}
use Rattle.std.proofs.lemmas.List.Elements.{Contains-get_or}
use Rattle.spectro_build.specs.declared.key.Key.{Key}
use Rattle.spectro_build.proofs.numbers.numbers_of.Goals as goal

pub number-requires : goal.number-requires
number-requires c =
    let first : Key = record { height = 0; pair = 0; place = 0 } in
    c.requires (get_or c.args.keys.now c.loop-key.key-index first)
    (Contains-get_or c.args.keys.now c.loop-key.key-index first (omega (arith, c.loop-key-test.true)))
