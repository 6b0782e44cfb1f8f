use Rattle.std.proofs.Common.{arith, ◌<◌, ◌^◌, subst, sym}
use Rattle.std.proofs.lemmas.Bool.{true≢false}
use Rattle.spectro_solve.proofs.MaskBits.{power-fits-half}
use Rattle.spectro_solve.proofs.StaleSplits.{subsets-more}
use Rattle.spectro_solve.proofs.fresh.are_subsets_stale.Goals as goal

pub loop-mask-preserved : goal.loop-mask-preserved
loop-mask-preserved c system weighing starts source x here =
    subsets-more system weighing starts c.args.arena.now source c.args.fresh.now c.args.k x here c.loop-mask.mask c.subset.result c.loop-mask.auto.mask
    (subst (λ n. c.loop-mask.mask < 2 ^ n) c.requires.size
    (let power = power-fits-half c.args.size c.requires.few in omega (arith, power, c.loop-mask-test.true)))
    c.subset.ensures.subset (λ marked. true≢false (sym (c.if-is_marked.ensures.1 marked)))
    (c.loop-mask.invariant system weighing starts source x here)
