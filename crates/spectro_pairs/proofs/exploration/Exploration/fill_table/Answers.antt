-- The subsets by rising mask are all that are not empty, and each number goes to the place of its mask.
use Rattle.std.proofs.Common.{◌≡◌, ◌≤◌, ◌^◌, [], sym, subst, length, arith, lit<}
use Rattle.std.proofs.lemmas.Result.{err_from_is_err_and}
use Rattle.std.proofs.Math.Nat.{one-le-pow, pow-le-pow_right}
use Rattle.spectro_pairs.specs.Explored.{IsSetWithin}
use Rattle.spectro_pairs.specs.Growth.{HasReached}
use Rattle.spectro_pairs.specs.Lattices.{IsFilled}
use Rattle.spectro_pairs.proofs.Growths.{has-none}
use Rattle.spectro_pairs.proofs.SubsetSteps.{filled-more, filled-none, mask-below, past-subsets, reached-subset}
use Rattle.spectro_pairs.proofs.Turns.{subsets-all}
use Rattle.spectro_pairs.proofs.exploration.Exploration.fill_table.Goals as goal

pub loop-mask-init : goal.loop-mask-init
loop-mask-init c = record {
  reached = has-none c.args.self.now;
  posts = λ system posts. posts;
  filled = filled-none c.args.self.now.pairs.pairs c.args.table.now.items c.args.state c.args.set.now c.requires.first;
}

pub add_subset-requires-clause-state : goal.add_subset-requires-clause-state
add_subset-requires-clause-state c = omega (arith, c.requires.state, c.loop-mask.invariant.reached.states)

pub add_subset-requires-clause-set : goal.add_subset-requires-clause-set
add_subset-requires-clause-set c = subst (λ n. IsSetWithin n c.args.set.now) (sym c.loop-mask.invariant.reached.states) c.requires.set

pub returns-in_err-k-clause-limit : goal.returns-in_err-k-clause-limit
returns-in_err-k-clause-limit c =
    let p = err_from_is_err_and c.from_residual.result c.from_residual.ensures.1 in
    rw (p.1, p.2)
    (past-subsets c.in_err-k.field-0.0 c.args.self.now c.loop-mask.self c.args.state c.args.set.now c.loop-mask.mask c.loop-mask.auto.mask
    (mask-below c.loop-mask.mask c.args.set.now c.requires.few c.loop-mask-test.true) c.loop-mask.invariant.reached c.in_err-k.ensures.limit)

pub loop-mask-preserved : goal.loop-mask-preserved
loop-mask-preserved c =
    let below = mask-below c.loop-mask.mask c.args.set.now c.requires.few c.loop-mask-test.true in
    record {
      reached =
          reached-subset c.args.self.now c.loop-mask.self c.add_subset.new.self c.args.state c.args.set.now c.loop-mask.mask c.loop-mask.auto.mask below
          c.loop-mask.invariant.reached c.in_ok-k.ensures.ok;
      posts = λ system posts. c.in_ok-k.ensures.posts system (c.loop-mask.invariant.posts system posts);
      filled =
          filled-more c.loop-mask.self.pairs.pairs c.add_subset.new.self.pairs.pairs c.loop-mask.table.items c.push.new.self.items c.args.state c.args.set.now
          c.loop-mask.mask c.in_ok-k.k c.loop-mask.invariant.filled c.in_ok-k.ensures.ok.pairs c.in_ok-k.ensures.number c.in_ok-push.ensures.items;
    }

pub returns-clause-ok : goal.returns-clause-ok
returns-clause-ok c =
    let few : 2 ^ length c.args.set.now ≤ 2 ^ 19 = pow-le-pow_right (lit< tt) c.requires.few in
    subst (λ l. HasReached c.args.self.now c.loop-mask.self l [])
    (subsets-all c.args.state c.args.set.now c.loop-mask.mask (omega (arith, few, c.loop-mask-test.false))) c.loop-mask.invariant.reached

pub returns-clause-filled : goal.returns-clause-filled
returns-clause-filled c =
    let power : 2 ^ length c.args.set.now ≤ 2 ^ 19 = pow-le-pow_right (lit< tt) c.requires.few in
    let least : 1 ≤ 2 ^ length c.args.set.now = one-le-pow (length c.args.set.now) 2 (omega arith) in
    let last : c.loop-mask.mask ≡ 2 ^ length c.args.set.now = omega (arith, c.loop-mask.auto.mask-end, c.loop-mask-test.false) in
    subst (IsFilled c.loop-mask.self.pairs.pairs c.loop-mask.table.items c.args.state c.args.set.now) last c.loop-mask.invariant.filled
