use Rattle.std.proofs.Common.{get_or, subst, arith}
use Rattle.std.proofs.lemmas.List.Elements.{Contains-get_or}
use Rattle.spectro_solve.specs.Changes.{HasEvaluated}
use Rattle.spectro_solve.proofs.Changing.{changes-more}
use Rattle.spectro_solve.proofs.generations.evaluate_marked.Goals as goal

pub evaluate_one-requires-clause-pair : goal.evaluate_one-requires-clause-pair
evaluate_one-requires-clause-pair g c = c.requires.numbers _ (Contains-get_or c.args.numbers.now c.loop-k.k-index 0 c.loop-k-test.true)

pub loop-k-preserved : goal.loop-k-preserved
loop-k-preserved g c = (
  changes-more c.args.arena.now c.args.lists.now.items c.args.numbers.now c.loop-k.k-index c.loop-k.changes.items c.evaluate_one.new.changes.items
      c.loop-k-test.true c.loop-k.invariant.0
      (subst (λ rows. HasEvaluated c.args.arena.now rows (get_or c.args.numbers.now c.loop-k.k-index 0) c.loop-k.changes.items c.evaluate_one.new.changes.items)
      c.deref.ensures.value c.in_ok-evaluate_one.ensures.changes),
  omega (arith, c.evaluate_one.ensures.steps, c.loop-k.invariant.1),
)
