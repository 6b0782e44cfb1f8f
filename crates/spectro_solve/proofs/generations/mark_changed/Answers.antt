use Rattle.std.proofs.Common.{◌⊎◌, ◌∙◌, ap, length, sym, subst, arith}
use Rattle.std.specs.Prelude.{◌↔◌}
use Rattle.std.proofs.lemmas.List.{take_all, length-set}
use Rattle.spectro_solve.specs.Changes.{HasChange}
use Rattle.spectro_solve.specs.Marks.{IsMarked}
use Rattle.spectro_solve.proofs.Changing.{changed-more}
use Rattle.spectro_solve.proofs.generations.mark_changed.Goals as goal

pub mark-requires : goal.mark-requires
mark-requires c =
    let below = c.requires c.change-item.result.pair c.change-item.result.list (c.loop-change.change-index, c.loop-change-test.true, sym c.change-item.is) in
    omega (arith, below, c.loop-change.invariant.0)

pub loop-change-preserved : goal.loop-change-preserved
loop-change-preserved c = (
  ap length c.in_ok-mark.ensures.ok ∙ length-set c.loop-change.fresh c.change-item.result.pair _ ∙ c.loop-change.invariant.0,
  changed-more c.args.changes.now c.loop-change.change-index c.change-item.result c.args.fresh.now c.loop-change.fresh c.mark.new.self c.loop-change-test.true
      c.change-item.is
      (let below = c.requires c.change-item.result.pair c.change-item.result.list (c.loop-change.change-index, c.loop-change-test.true, sym c.change-item.is) in
      omega (arith, below, c.loop-change.invariant.0)) c.loop-change.invariant.1 c.in_ok-mark.ensures.ok,
)

pub returns-clause-marked : goal.returns-clause-marked
returns-clause-marked c k = subst (λ changes. IsMarked c.loop-change.fresh k ↔ IsMarked c.args.fresh.now k ⊎ HasChange changes k)
    (take_all c.loop-change.change-index c.args.changes.now (omega (arith, c.loop-change-test.false))) (c.loop-change.invariant.1 k)
