use Rattle.std.proofs.Common.{◌≡◌, ◌^◌, ◌-◌, min, length, take}
use Rattle.std.specs.Prelude.{sum_by}
use Rattle.spectro_solve.proofs.table.Table.energies.Given as goal

abbrev pub invariant-loop-list : goal.invariant-loop-list
invariant-loop-list l = l.sum ≡ min (sum_by length (take l.list-index l.list-items)) (2 ^ 64 - 1)
