-- The starts so far are reached.
use Rattle.std.proofs.Common.{map, take}
use Rattle.spectro_pairs.specs.Explored.{start_pair}
use Rattle.spectro_pairs.specs.Growth.{HasStarted, KeepsPosts}
use Rattle.spectro_pairs.proofs.exploration.Exploration.start.Given as goal

abbrev pub invariant-loop-p : goal.invariant-loop-p
invariant-loop-p l = record {
  started : HasStarted l.fn.self l.self (map start_pair (take l.p-index l.starts));
  posts : KeepsPosts l.fn.self l.self;
}
