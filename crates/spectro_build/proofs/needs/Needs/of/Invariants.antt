use Rattle.std.proofs.Common.{[], take}
use Rattle.spectro_build.specs.Needs.{ArePut}
use Rattle.spectro_build.proofs.needs.Needs.of.Given as goal

-- the first keys were put
abbrev pub invariant-loop-key : goal.invariant-loop-key
invariant-loop-key l = ArePut [] (take l.key-index l.keys) l.needs
