-- Without ends there is no row, and without items nothing is open.
use Rattle.spectro_rows.proofs.RowLists.{ends-nil, rows_of-nil}
use Rattle.spectro_rows.proofs.rows.Rows.new.Goals as goal

pub invariant_of-result : goal.invariant_of-result
invariant_of-result g c = ends-nil _ _ c.new-2.ensures.items

pub returns : goal.returns
returns g c = rows_of-nil _ _ c.new-2.ensures.items c.new.ensures.items
