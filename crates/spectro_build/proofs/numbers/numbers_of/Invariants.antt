use Rattle.std.proofs.Common.{◌≡◌, Some, map, take, slice_get}
use Rattle.spectro_build.proofs.numbers.numbers_of.Given as goal

-- those of the first keys
abbrev pub invariant-loop-key : goal.invariant-loop-key
invariant-loop-key l = map (slice_get l.needs) l.numbers.items ≡ map Some (take l.key-index l.keys)
