use Rattle.std.proofs.Common.{sym, subst}
use Rattle.spectro_solve.specs.Marks.{AreMarks}
use Rattle.spectro_solve.proofs.Marked.{never-marked, no-numbers}
use Rattle.spectro_solve.proofs.marks.Marks.none.Goals as goal

pub invariant_of-result : goal.invariant_of-result
invariant_of-result c =
    let flags = c.in_ok-flags.ensures.items_if_clones_equal (λ y e. e) in
    subst (AreMarks c.in_ok-flags.flags.items) (sym c.new.ensures.items)
    (no-numbers c.in_ok-flags.flags.items (λ k. never-marked c.in_ok-flags.flags.items c.args.pairs k flags))
