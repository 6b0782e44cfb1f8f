-- The first k pairs are expanded, and the limit stays.
use Rattle.std.proofs.Common.{◌≡◌, ◌≤◌, ◌-◌, length}
use Rattle.spectro_pairs.specs.Growth.{AreExplored}
use Rattle.spectro_pairs.proofs.reaching.explore.Given as goal

abbrev pub invariant-loop-k : goal.invariant-loop-k
invariant-loop-k l = record {
  explored : AreExplored l.lts l.starts l.exploration l.k;
  within : l.k ≤ length l.exploration.pairs.pairs;
  limit : l.exploration.pairs.limit ≡ l.limit;
}

abbrev pub decreases-loop-k : goal.decreases-loop-k
decreases-loop-k l = l.limit - l.k
