-- The numbers of the submasks so far are put down.
use Rattle.std.proofs.Common.{◌≡◌, ◌++◌}
use Rattle.spectro_pairs.specs.Lattices.{numbers_to, submask}
use Rattle.spectro_pairs.proofs.lattices.push_submasks.Given as goal

abbrev pub invariant-loop : goal.invariant-loop
invariant-loop l = record {
  at : l.submask ≡ submask l.mask l.counter;
  pushed : l.followers ≡ record l.fn.followers { last = l.fn.followers.last ++ numbers_to l.table l.mask l.counter };
}
