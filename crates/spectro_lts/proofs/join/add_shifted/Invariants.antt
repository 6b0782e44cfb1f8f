use Rattle.std.proofs.Common.{◌≡◌, take}
use Rattle.spectro_lts.proofs.Joining.{grown}
use Rattle.spectro_lts.proofs.join.add_shifted.Given as goal

abbrev pub invariant-loop-k : goal.invariant-loop-k
invariant-loop-k l = l.draft ≡ grown l.initial.draft l.by (take l.k l.lts.steps)
