use Rattle.std.proofs.Common.{◌≡◌, ◌+◌, codes, ap, ◌∙◌, arith}
use Rattle.std.proofs.lemmas.Result.{IfOk-weaker}
use Rattle.spectro_spec.specs.System.{System}
use Rattle.spectro_lts.specs.Labels.{labels_of}
use Rattle.spectro_demo.proofs.Growing.{few_labels, left-more, left-whole, length-with_last}
use Rattle.spectro_demo.proofs.LabelLaws.{labels_of-demo_left}
use Rattle.spectro_demo.specs.Systems.{next_step, step}
use Rattle.spectro_demo.proofs.systems.demo_left.Goals as goal

pub add-requires-clause-few_labels : goal.add-requires-clause-few_labels
add-requires-clause-few_labels c = few_labels c.loop-s.draft.steps (omega (arith, c.loop-s.invariant.size, c.loop-s-test.true, c.requires.few))

pub loop-s-preserved : goal.loop-s-preserved
loop-s-preserved c = record {
  system = left-more c.args.n c.loop-s.s c.loop-s.draft c.add.new.self c.loop-s.invariant.system c.in_ok-add.ensures.ok;
  size = omega (arith, c.loop-s.invariant.size, length-with_last c.loop-s.draft c.add.new.self (next_step c.loop-s.s) c.in_ok-add.ensures.ok);
}

pub add-requires-2-clause-few_labels : goal.add-requires-2-clause-few_labels
add-requires-2-clause-few_labels c = few_labels c.loop-s.draft.steps (omega (arith, c.loop-s.invariant.size, c.loop-s.auto.s-end, c.requires.few))

pub add-requires-3-clause-few_labels : goal.add-requires-3-clause-few_labels
add-requires-3-clause-few_labels c =
    let one = length-with_last c.loop-s.draft c.add-2.new.self (step c.args.n (codes "b") (c.args.n + 1)) c.in_ok-add-2.ensures.ok in
    few_labels c.add-2.new.self.steps (omega (arith, one, c.loop-s.invariant.size, c.loop-s.auto.s-end, c.requires.few))

pub returns-clause-system : goal.returns-clause-system
returns-clause-system c =
    let end : c.loop-s.s ≡ c.args.n = omega (arith, c.loop-s.auto.s-end, c.loop-s-test.false) in
    let whole = left-whole c.args.n c.loop-s.s c.loop-s.draft c.add-2.new.self c.add-3.new.self end c.loop-s.invariant.system
    c.in_ok-add-2.ensures.ok c.in_ok-add-3.ensures.ok in
    IfOk-weaker c.finish.result _ _ (λ lts is. is ∙ whole) c.finish.ensures

pub returns-clause-labels : goal.returns-clause-labels
returns-clause-labels c =
    let end : c.loop-s.s ≡ c.args.n = omega (arith, c.loop-s.auto.s-end, c.loop-s-test.false) in
    let whole = left-whole c.args.n c.loop-s.s c.loop-s.draft c.add-2.new.self c.add-3.new.self end c.loop-s.invariant.system
    c.in_ok-add-2.ensures.ok c.in_ok-add-3.ensures.ok in
    IfOk-weaker c.finish.result _ _ (λ lts is. ap (λ (system : System). labels_of system.steps) (is ∙ whole) ∙ labels_of-demo_left c.args.n c.requires.some)
    c.finish.ensures
