use Rattle.std.proofs.Common.{◌≡◌, take}
use Rattle.spectro_energy.specs.Energy.{prices_of}
use Rattle.spectro_antichain.proofs.antichain.are_same.Given as goal

abbrev pub invariant-loop-k : goal.invariant-loop-k
invariant-loop-k l = take l.k (prices_of l.left) ≡ take l.k (prices_of l.right)
