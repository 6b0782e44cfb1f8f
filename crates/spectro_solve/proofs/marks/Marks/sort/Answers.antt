use Rattle.std.proofs.Common.{arith}
use Rattle.spectro_solve.proofs.Marked.{other-order}
use Rattle.spectro_solve.proofs.marks.Marks.sort.Goals as goal

pub invariant_of-self : goal.invariant_of-self
invariant_of-self c = other-order c.self.inside.flags.items c.self.inside.numbers.items c.sort_unstable.new.self.items c.self.invariant
    c.sort_unstable.ensures.permutation (omega arith)
