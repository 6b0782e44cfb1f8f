-- Room is no row and no item.
use Rattle.spectro_rows.proofs.RowLists.{ends-nil, rows_of-nil}
use Rattle.spectro_rows.proofs.rows.Rows.with_capacity.Goals as goal

pub invariant_of-result : goal.invariant_of-result
invariant_of-result g c = ends-nil _ _ c.in_ok-with_capacity-2.ensures.items

pub returns : goal.returns
returns g c = rows_of-nil _ _ c.in_ok-with_capacity-2.ensures.items c.in_ok-with_capacity.ensures.items
