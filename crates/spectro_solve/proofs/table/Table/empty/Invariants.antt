use Rattle.std.proofs.Common.{◌≡◌, replicate, []}
use Rattle.spectro_solve.proofs.table.Table.empty.Given as goal

abbrev pub invariant-loop : goal.invariant-loop
invariant-loop l = l.lists.items ≡ replicate l.counter []
