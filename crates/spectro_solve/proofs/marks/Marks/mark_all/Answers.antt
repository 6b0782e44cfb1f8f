use Rattle.std.proofs.Common.{arith, subst, ◌⊎◌, Contains, get_or}
use Rattle.std.specs.Prelude.{◌↔◌}
use Rattle.std.proofs.lemmas.List.{take_all}
use Rattle.std.proofs.lemmas.List.Elements.{Contains-get_or}
use Rattle.spectro_solve.specs.Marks.{IsMarked}
use Rattle.spectro_solve.proofs.Marked.{marks-on}
use Rattle.spectro_solve.proofs.marks.Marks.mark_all.Goals as goal

pub mark-requires : goal.mark-requires
mark-requires c =
    let below = c.requires (get_or c.args.pairs.now c.loop-k.k-index 0) (Contains-get_or c.args.pairs.now c.loop-k.k-index 0 c.loop-k-test.true) in
    omega (arith, below, c.loop-k.invariant.0)

pub loop-k-preserved : goal.loop-k-preserved
loop-k-preserved c = marks-on c.args.self.now c.loop-k.self c.mark.new.self c.args.pairs.now c.loop-k.k-index c.loop-k.invariant.0 c.loop-k.invariant.1
    c.loop-k-test.true (c.requires (get_or c.args.pairs.now c.loop-k.k-index 0) (Contains-get_or c.args.pairs.now c.loop-k.k-index 0 c.loop-k-test.true))
    c.in_ok-mark.ensures.ok

pub returns-clause-marked : goal.returns-clause-marked
returns-clause-marked c k = subst (λ numbers. IsMarked c.loop-k.self k ↔ IsMarked c.args.self.now k ⊎ Contains numbers k)
    (take_all c.loop-k.k-index c.args.pairs.now (omega (arith, c.loop-k-test.false))) (c.loop-k.invariant.1 k)
