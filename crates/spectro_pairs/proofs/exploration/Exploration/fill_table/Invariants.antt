-- The subsets of the masks so far are reached, and their numbers are in the table.
use Rattle.std.proofs.Common.{[]}
use Rattle.spectro_pairs.specs.Growth.{HasReached, KeepsPosts}
use Rattle.spectro_pairs.specs.Lattices.{IsFilled}
use Rattle.spectro_pairs.proofs.Turns.{subsets_to}
use Rattle.spectro_pairs.proofs.exploration.Exploration.fill_table.Given as goal

abbrev pub invariant-loop-mask : goal.invariant-loop-mask
invariant-loop-mask l = record {
  reached : HasReached l.fn.self l.self (subsets_to l.state l.set l.mask) [];
  posts : KeepsPosts l.fn.self l.self;
  filled : IsFilled l.self.pairs.pairs l.table.items l.state l.set l.mask;
}
