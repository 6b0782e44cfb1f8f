use Rattle.std.proofs.Common.{◌≡◌, ◌++◌, length}
use Rattle.std.specs.Vec.Iter.{into_iter_items, into_iter_len}
use Rattle.spectro_solve.specs.Changes.{ArePut}
use Rattle.spectro_solve.proofs.generations.put_in.Given as goal

abbrev pub invariant-loop-change : goal.invariant-loop-change
invariant-loop-change l =
    ArePut l.yielded l.fn.lists l.lists ×
    (l.yielded ++ into_iter_items l.change-iterator ≡ l.fn.changes.items) ×
    (into_iter_len l.change-iterator ≡ length (into_iter_items l.change-iterator)) ×
    (goal.iterator-loop-change).can_next l.change-iterator ×
    (goal.iterator-loop-change).is_finite l.change-iterator
