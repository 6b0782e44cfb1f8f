-- The swaps with the members so far are reached.
use Rattle.std.proofs.Common.{[], take}
use Rattle.spectro_pairs.specs.Growth.{HasReached, KeepsPosts}
use Rattle.spectro_pairs.proofs.Turns.{swaps_with}
use Rattle.spectro_pairs.proofs.exploration.Exploration.add_swaps.Given as goal

abbrev pub invariant-loop-q : goal.invariant-loop-q
invariant-loop-q l = record {
  reached : HasReached l.fn.self l.self (swaps_with l.state (take l.q-index l.set)) [];
  posts : KeepsPosts l.fn.self l.self;
}
