use Rattle.std.proofs.Common.{◌≡◌, ◌+◌, take}
use Rattle.spectro_solve.specs.Changes.{AreChanges}
use Rattle.spectro_solve.proofs.generations.evaluate_marked.Given as goal

abbrev pub invariant-loop-k : goal.invariant-loop-k
invariant-loop-k g l = AreChanges l.arena l.lists.items (take l.k-index l.numbers) l.changes.items × (l.steps ≡ l.fn.steps + l.k-index)
