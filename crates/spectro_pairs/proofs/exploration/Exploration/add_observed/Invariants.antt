-- The targets so far are reached against the set, which keeps its number.
use Rattle.std.proofs.Common.{◌≡◌, map, take}
use Rattle.spectro_pairs.specs.Interned.{pair_at}
use Rattle.spectro_pairs.specs.Growth.{HasReached, KeepsPosts}
use Rattle.spectro_pairs.proofs.exploration.Exploration.add_observed.Given as goal

abbrev pub invariant-loop-t : goal.invariant-loop-t
invariant-loop-t l = record {
  sets : l.self.pairs.sets ≡ l.fn.self.pairs.sets;
  reached : HasReached l.fn.self l.self (map (λ t. pair_at l.fn.self.pairs.sets t l.set) (take l.t-index l.targets))
      (map (λ t. l.no) (take l.t-index l.targets));
  posts : KeepsPosts l.fn.self l.self;
}
