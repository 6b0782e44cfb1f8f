use Rattle.std.proofs.Common.{◌⊎◌, sym, subst, arith}
use Rattle.std.specs.Prelude.{◌↔◌}
use Rattle.std.proofs.lemmas.List.{take_all}
use Rattle.spectro_theory.proofs.Places.{stands-below}
use Rattle.spectro_pairs.specs.Arenas.{ArePredecessors}
use Rattle.spectro_solve.specs.Changes.{PrecedesSome}
use Rattle.spectro_solve.specs.Marks.{IsMarked}
use Rattle.spectro_solve.specs.declared.generations.Change.{Change}
use Rattle.spectro_solve.proofs.Changing.{marks-more}
use Rattle.spectro_solve.proofs.generations.mark_predecessors.Goals as goal

pub preds-requires : goal.preds-requires
preds-requires c = c.requires.changes c.change-item.result.pair c.change-item.result.list
    (c.loop-change.change-index, c.loop-change-test.true, sym c.change-item.is)

pub mark_all-requires : goal.mark_all-requires
mark_all-requires c k listed =
    let (system, (weighing, starts, source)) = c.requires.source in
    let before = ((c.preds.ensures.value system weighing starts source).exact k).0 listed in
    let below = stands-below c.args.arena.now.pairs k before.0 before.1 in
    omega (arith, below, c.loop-change.invariant.0, c.requires.marks)

pub loop-change-preserved : goal.loop-change-preserved
loop-change-preserved c = (
  omega (arith, c.mark_all.ensures.len, c.loop-change.invariant.0),
  λ system weighing starts source. marks-more system c.args.arena.now.pairs c.args.changes.now c.loop-change.change-index c.change-item.result
      c.preds.result.now c.args.marks.now c.loop-change.marks c.mark_all.new.self c.loop-change-test.true
      (subst (λ (x : Change). ArePredecessors system c.args.arena.now.pairs x.pair c.preds.result.now) c.change-item.is
      (c.preds.ensures.value system weighing starts source))
      (c.loop-change.invariant.1 system weighing starts source) c.in_ok-mark_all.ensures.marked,
)

pub returns-clause-marked : goal.returns-clause-marked
returns-clause-marked c system weighing starts source k =
    subst (λ changes. IsMarked c.loop-change.marks k ↔ IsMarked c.args.marks.now k ⊎ PrecedesSome system c.args.arena.now.pairs changes k)
    (take_all c.loop-change.change-index c.args.changes.now (omega (arith, c.loop-change-test.false)))
    (c.loop-change.invariant.1 system weighing starts source k)
