use Rattle.std.proofs.Common.{◌≡◌, ◌+◌, ◌*◌, codes, length, ap, ◌∙◌, arith}
use Rattle.std.proofs.lemmas.Result.{IfOk-weaker}
use Rattle.spectro_spec.specs.System.{System}
use Rattle.spectro_lts.specs.Labels.{labels_of}
use Rattle.spectro_demo.proofs.Growing.{few_labels, length-with_last, right-more, right-whole}
use Rattle.spectro_demo.proofs.LabelLaws.{labels_of-demo_right}
use Rattle.spectro_demo.specs.Systems.{next_step, step}
use Rattle.spectro_demo.proofs.systems.demo_right.Goals as goal

pub add-requires-in-loop-s-clause-few_labels : goal.add-requires-in-loop-s-clause-few_labels
add-requires-in-loop-s-clause-few_labels c =
    few_labels c.loop-s.draft.steps (omega (arith, c.loop-s.invariant.size, c.loop-s-test.true, c.requires.few))

pub add-requires-in-loop-s-2-clause-few_labels : goal.add-requires-in-loop-s-2-clause-few_labels
add-requires-in-loop-s-2-clause-few_labels c =
    let one = length-with_last c.loop-s.draft c.add-in-loop-s.new.self (next_step c.loop-s.s) c.in_ok-add-3.ensures.ok in
    few_labels c.add-in-loop-s.new.self.steps (omega (arith, one, c.loop-s.invariant.size, c.loop-s-test.true, c.requires.few))

pub loop-s-preserved : goal.loop-s-preserved
loop-s-preserved c =
    let old = c.loop-s.draft in
    let mid = c.add-in-loop-s.new.self in
    let new = c.add-in-loop-s-2.new.self in
    let one = length-with_last old mid (next_step c.loop-s.s) c.in_ok-add-3.ensures.ok in
    let other = length-with_last mid new (next_step (c.args.n + c.loop-s.s)) c.in_ok-add-4.ensures.ok in
    record {
      system = right-more c.args.n c.loop-s.s old mid new c.loop-s.auto.s c.loop-s.invariant.system c.in_ok-add-3.ensures.ok c.in_ok-add-4.ensures.ok;
      size = omega (arith, one, other, c.loop-s.invariant.size);
    }

pub add-requires-3-clause-few_labels : goal.add-requires-3-clause-few_labels
add-requires-3-clause-few_labels c =
    few_labels c.loop-s.draft.steps (omega (arith, c.loop-s.invariant.size, c.loop-s.auto.s-end, c.requires.some, c.requires.few))

pub add-requires-4-clause-few_labels : goal.add-requires-4-clause-few_labels
add-requires-4-clause-few_labels c =
    let one = length-with_last c.loop-s.draft c.add-3.new.self (step c.args.n (codes "b") (2 * c.args.n + 1)) c.in_ok-add-5.ensures.ok in
    few_labels c.add-3.new.self.steps (omega (arith, one, c.loop-s.invariant.size, c.loop-s.auto.s-end, c.requires.some, c.requires.few))

pub returns-clause-system : goal.returns-clause-system
returns-clause-system c =
    let end : c.loop-s.s ≡ c.args.n = omega (arith, c.loop-s.auto.s-end, c.loop-s-test.false, c.requires.some) in
    let whole = right-whole c.args.n c.loop-s.s c.loop-s.draft c.add-3.new.self c.add-4.new.self end c.loop-s.invariant.system
    c.in_ok-add-5.ensures.ok c.in_ok-add-6.ensures.ok in
    IfOk-weaker c.finish.result _ _ (λ lts is. is ∙ whole) c.finish.ensures

pub returns-clause-steps : goal.returns-clause-steps
returns-clause-steps c =
    let end : c.loop-s.s ≡ c.args.n = omega (arith, c.loop-s.auto.s-end, c.loop-s-test.false, c.requires.some) in
    let one = length-with_last c.loop-s.draft c.add-3.new.self (step c.args.n (codes "b") (2 * c.args.n + 1)) c.in_ok-add-5.ensures.ok in
    let other = length-with_last c.add-3.new.self c.add-4.new.self (step (2 * c.args.n) (codes "c") (2 * c.args.n + 1)) c.in_ok-add-6.ensures.ok in
    let size : length c.add-4.new.self.steps ≡ 2 * c.args.n + 2 = omega (arith, end, one, other, c.loop-s.invariant.size) in
    IfOk-weaker c.finish.result _ _ (λ lts is. ap (λ (system : System). length system.steps) is ∙ size) c.finish.ensures

pub returns-clause-labels : goal.returns-clause-labels
returns-clause-labels c =
    let end : c.loop-s.s ≡ c.args.n = omega (arith, c.loop-s.auto.s-end, c.loop-s-test.false, c.requires.some) in
    let whole = right-whole c.args.n c.loop-s.s c.loop-s.draft c.add-3.new.self c.add-4.new.self end c.loop-s.invariant.system
    c.in_ok-add-5.ensures.ok c.in_ok-add-6.ensures.ok in
    IfOk-weaker c.finish.result _ _ (λ lts is. ap (λ (system : System). labels_of system.steps) (is ∙ whole) ∙ labels_of-demo_right c.args.n)
    c.finish.ensures
