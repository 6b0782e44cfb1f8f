use Rattle.std.proofs.Common.{◌≡◌, ◌^◌, ap, length, sym}
use Rattle.spectro_solve.proofs.Listing.{pair-holds}
use Rattle.spectro_solve.proofs.StaleSplits.{splits-stale}
use Rattle.spectro_solve.proofs.fresh.are_splits_stale.Goals as goal

pub returns-then-are_subsets_stale : goal.returns-then-are_subsets_stale
returns-then-are_subsets_stale c swaps system weighing starts source x here =
    let size : length c.set.result.now ≡ length x.set =
    ap length (sym (pair-holds c.args.arena.now.pairs c.args.k (λ y. y.set ≡ c.set.result.now) c.set.ensures.value x here)) in
    splits-stale system weighing starts c.args.arena.now source c.args.fresh.now c.args.k x here (2 ^ length c.set.result.now) (length c.set.result.now)
    (ap (λ n. 2 ^ n) size) size (c.are_subsets_stale.ensures c.if-are_subsets_stale.true system weighing starts source x here)
    (c.are_swaps_stale.ensures swaps system weighing starts source x here)
