-- No weight so far is less, and one of them is the least, if there is one.
use Rattle.std.proofs.Common.{ℕ, ◌≡◌, ◌<◌, ◌≤◌, ◌⊎◌, get_or}
use Rattle.spectro_pairs.proofs.reaching.least_of.Given as goal

abbrev pub invariant-loop-weight : goal.invariant-loop-weight
invariant-loop-weight l = record {
  low : (i : ℕ) → i < l.weight-index → l.least ≤ get_or l.weights i 0;
  reached : ((i : ℕ) × (i < l.weight-index) × (get_or l.weights i 0 ≡ l.least)) ⊎ ((l.weight-index ≡ 0) × (l.least ≡ 255));
}
