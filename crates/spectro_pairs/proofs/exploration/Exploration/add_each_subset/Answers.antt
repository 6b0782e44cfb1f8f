-- The subsets by rising mask are all that are not empty.
use Rattle.std.proofs.Common.{◌≤◌, ◌^◌, [], subst, length, arith, lit<}
use Rattle.std.proofs.lemmas.Result.{err_from_is_err_and}
use Rattle.std.proofs.Math.Nat.{pow-le-pow_right}
use Rattle.spectro_pairs.specs.Growth.{HasReached}
use Rattle.spectro_pairs.proofs.Growths.{has-none}
use Rattle.spectro_pairs.proofs.SubsetSteps.{past-subsets, reached-subset, mask-below}
use Rattle.spectro_pairs.proofs.Turns.{subsets-all}
use Rattle.spectro_pairs.proofs.exploration.Exploration.add_each_subset.Goals as goal

pub loop-mask-init : goal.loop-mask-init
loop-mask-init c = record { reached = has-none c.args.self.now; posts = λ system posts. posts }

pub returns-in_err-add_subset-clause-limit : goal.returns-in_err-add_subset-clause-limit
returns-in_err-add_subset-clause-limit c =
    let p = err_from_is_err_and c.from_residual.result c.from_residual.ensures.1 in
    rw (p.1, p.2)
    (past-subsets c.in_err-add_subset.field-0.0 c.args.self.now c.loop-mask.self c.args.state c.args.set.now c.loop-mask.mask
    c.loop-mask.auto.mask (mask-below c.loop-mask.mask c.args.set.now c.requires.few c.loop-mask-test.true) c.loop-mask.invariant.reached
    c.in_err-add_subset.ensures.limit)

pub loop-mask-preserved : goal.loop-mask-preserved
loop-mask-preserved c =
    record {
      reached =
          reached-subset c.args.self.now c.loop-mask.self c.add_subset.new.self c.args.state c.args.set.now c.loop-mask.mask c.loop-mask.auto.mask
          (mask-below c.loop-mask.mask c.args.set.now c.requires.few c.loop-mask-test.true) c.loop-mask.invariant.reached c.in_ok-add_subset.ensures.ok;
      posts = λ system posts. c.in_ok-add_subset.ensures.posts system (c.loop-mask.invariant.posts system posts);
    }

pub returns-clause-ok : goal.returns-clause-ok
returns-clause-ok c =
    let few : 2 ^ length c.args.set.now ≤ 2 ^ 19 = pow-le-pow_right (lit< tt) c.requires.few in
    subst (λ l. HasReached c.args.self.now c.loop-mask.self l [])
    (subsets-all c.args.state c.args.set.now c.loop-mask.mask (omega (arith, few, c.loop-mask-test.false))) c.loop-mask.invariant.reached
