use Rattle.std.proofs.Common.{arith, subst, sym, Contains, get_or, set, false, refl}
use Rattle.std.proofs.lemmas.List.{take_all}
use Rattle.std.proofs.lemmas.List.Elements.{Contains-get_or}
use Rattle.spectro_solve.proofs.Marked.{unset-on}
use Rattle.spectro_solve.proofs.marks.unset.Goals as goal

pub bounds-flags-k : goal.bounds-flags-k
bounds-flags-k c =
    let below = c.requires (get_or c.args.numbers.now c.loop-k.k-index 0) (Contains-get_or c.args.numbers.now c.loop-k.k-index 0 c.loop-k-test.true) in
    omega (arith, below, c.loop-k.invariant.0)

pub loop-k-preserved : goal.loop-k-preserved
loop-k-preserved c = unset-on c.args.flags.now c.loop-k.flags (set c.loop-k.flags (get_or c.args.numbers.now c.loop-k.k-index 0) false)
    c.args.numbers.now c.loop-k.k-index c.loop-k.invariant.0 c.loop-k.invariant.1 c.loop-k-test.true refl

pub returns-clause-gone : goal.returns-clause-gone
returns-clause-gone c k listed marked = (c.loop-k.invariant.1 k marked).1
    (subst (λ numbers. Contains numbers k) (sym (take_all c.loop-k.k-index c.args.numbers.now (omega (arith, c.loop-k-test.false)))) listed)
