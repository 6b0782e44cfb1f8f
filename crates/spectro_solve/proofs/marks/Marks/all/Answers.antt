use Rattle.std.proofs.Common.{arith, subst, sym, ◌≡◌, true, replicate}
use Rattle.spectro_solve.specs.Marks.{AreMarks}
use Rattle.spectro_solve.proofs.Marked.{all-marked, one-below}
use Rattle.spectro_solve.proofs.marks.Marks.all.Goals as goal

pub loop-k-preserved : goal.loop-k-preserved
loop-k-preserved c = one-below c.loop-k.numbers.items c.push.new.self.items c.loop-k.k c.loop-k.invariant.0 c.loop-k.invariant.1 c.in_ok-push.ensures.items

pub invariant_of-result : goal.invariant_of-result
invariant_of-result c =
    let whole : c.loop-k.k ≡ c.args.pairs = omega (arith, c.loop-k.auto.k-end, c.loop-k-test.false) in
    subst (λ flags. AreMarks flags c.loop-k.numbers.items) (sym (c.in_ok-flags.ensures.items_if_clones_equal (λ y e. e)))
    (subst (λ n. AreMarks (replicate n true) c.loop-k.numbers.items) whole
    (all-marked c.loop-k.k c.loop-k.numbers.items c.loop-k.invariant.0 c.loop-k.invariant.1))
