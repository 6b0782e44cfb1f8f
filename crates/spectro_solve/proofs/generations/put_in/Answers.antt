use Rattle.std.proofs.Common.{ℕ, length, ◌∙◌, ◌++◌, ◌∷◌, [], sym, ap, subst, arith, append_assoc, List}
use Rattle.std.proofs.lemmas.List.{append-nil}
use Rattle.std.specs.Vec.Iter.{into_iter_items}
use Rattle.spectro_solve.specs.Changes.{ArePut}
use Rattle.spectro_solve.specs.declared.generations.Change.{Change}
use Rattle.spectro_solve.proofs.Changing.{is-next, nothing, put-more}
use Rattle.spectro_solve.proofs.generations.put_in.Goals as goal

pub put-requires : goal.put-requires
put-requires c =
    let below = c.requires c.in-Some.change.pair c.in-Some.change.list
    (is-next c.args.changes.items c.loop-change.yielded (into_iter_items c.loop-change.change-iterator) (into_iter_items c.next.new.self) c.in-Some.change
    c.loop-change.invariant.1 c.in-Some.ensures.steps.0) in
    omega (arith, below, c.loop-change.invariant.0.many)

pub loop-change-preserved : goal.loop-change-preserved
loop-change-preserved c = (
  subst (ArePut (c.loop-change.yielded ++ c.in-Some.change ∷ []) c.args.lists.now) (sym c.put.ensures)
      (put-more c.loop-change.yielded c.in-Some.change c.args.lists.now c.loop-change.lists c.loop-change.invariant.0
      (c.requires c.in-Some.change.pair c.in-Some.change.list
      (is-next c.args.changes.items c.loop-change.yielded (into_iter_items c.loop-change.change-iterator) (into_iter_items c.next.new.self) c.in-Some.change
      c.loop-change.invariant.1 c.in-Some.ensures.steps.0))),
  append_assoc c.loop-change.yielded (c.in-Some.change ∷ []) (into_iter_items c.next.new.self)
      ∙ ap (λ (rest : List Change). c.loop-change.yielded ++ rest) (sym c.in-Some.ensures.steps.0) ∙ c.loop-change.invariant.1,
  omega (arith, c.in-Some.ensures.steps.1, ap {B = ℕ} length c.in-Some.ensures.steps.0, c.loop-change.invariant.2),
  tt,
  tt,
)

pub returns : goal.returns
returns c = subst (λ changes. ArePut changes c.args.lists.now c.loop-change.lists)
    (sym (append-nil c.loop-change.yielded) ∙ ap (λ (rest : List Change). c.loop-change.yielded ++ rest)
    (sym (nothing (into_iter_items c.loop-change.change-iterator) (omega (arith, c.in-None.ensures.steps.0, c.loop-change.invariant.2))))
    ∙ c.loop-change.invariant.1) c.loop-change.invariant.0
