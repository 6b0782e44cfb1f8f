use Rattle.std.proofs.Common.{arith, ◌≡◌, ◌+◌, ◌^◌, length, subst}
use Rattle.spectro_game.specs.Rows.{listed_at}
use Rattle.spectro_solve.specs.Added.{IsAdded}
use Rattle.spectro_solve.specs.Choices.{AffordsMask, AffordsSplitAmong}
use Rattle.spectro_solve.proofs.Adding.{added-nothing, added-then}
use Rattle.spectro_solve.proofs.MaskBits.{power-fits}
use Rattle.spectro_solve.proofs.SplitPrices.{among-next}
use Rattle.spectro_solve.proofs.splits.add_masks.Goals as goal

pub loop-mask-init : goal.loop-mask-init
loop-mask-init c = (
  (λ mask below. absurd (omega arith)),
  (λ system weighing starts source x here.
      added-nothing (AffordsSplitAmong (listed_at c.args.arena.now.pairs c.args.lists.now) x c.args.clauses.now 0) c.args.made.now
      (λ e (mask, below, by). absurd (omega arith))),
)

pub loop-mask-preserved : goal.loop-mask-preserved
loop-mask-preserved c = (
  c.in_ok-add_next.ensures.chosen,
  (λ system weighing starts source x here. added-then
      (AffordsSplitAmong (listed_at c.args.arena.now.pairs c.args.lists.now) x c.args.clauses.now c.loop-mask.mask)
      (AffordsMask (listed_at c.args.arena.now.pairs c.args.lists.now) x c.args.clauses.now c.loop-mask.mask)
      (AffordsSplitAmong (listed_at c.args.arena.now.pairs c.args.lists.now) x c.args.clauses.now (c.loop-mask.mask + 1)) c.args.made.now c.loop-mask.made
      c.add_next.new.made (c.loop-mask.invariant.1 system weighing starts source x here)
      (c.in_ok-add_next.ensures.added system weighing starts source x here)
      (among-next (listed_at c.args.arena.now.pairs c.args.lists.now) x c.args.clauses.now c.loop-mask.mask)),
)

pub returns : goal.returns
returns c system weighing starts source x here =
    let power = power-fits (length c.args.clauses.now) c.requires.few in
    let all : c.loop-mask.mask ≡ 2 ^ length c.args.clauses.now = omega (arith, power, c.loop-mask-test.false, c.loop-mask.auto.mask-end) in
    subst (λ n. IsAdded (AffordsSplitAmong (listed_at c.args.arena.now.pairs c.args.lists.now) x c.args.clauses.now n) c.args.made.now c.loop-mask.made) all
    (c.loop-mask.invariant.1 system weighing starts source x here)
