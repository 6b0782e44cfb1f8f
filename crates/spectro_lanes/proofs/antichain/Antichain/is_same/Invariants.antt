use Rattle.std.proofs.Common.{◌≡◌, take}
use Rattle.spectro_lanes.proofs.antichain.Antichain.is_same.Given as goal

abbrev pub invariant-loop-k : goal.invariant-loop-k
invariant-loop-k l = take l.k l.self ≡ take l.k l.other
