-- What is left of the members so far.
use Rattle.std.proofs.Common.{◌≡◌, take}
use Rattle.spectro_theory.proofs.Masks.{division_at}
use Rattle.spectro_pairs.proofs.subsets.take_subset.Given as goal

abbrev pub invariant-loop-i : goal.invariant-loop-i
invariant-loop-i l = l.subset.items ≡ (division_at l.mask (take l.i l.set)).left
