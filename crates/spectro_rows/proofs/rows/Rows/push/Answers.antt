-- The number goes behind those of the open row.
use Rattle.std.proofs.Common.{◌∷◌, []}
use Rattle.spectro_rows.proofs.RowLists.{ends-more, rows_of-more}
use Rattle.spectro_rows.proofs.rows.Rows.push.Goals as goal

pub invariant_of-self-2 : goal.invariant_of-self-2
invariant_of-self-2 g c = rw c.in_ok-push.ensures.items (ends-more 0 c.self.inside.ends.items c.self.inside.items.items (c.args.item ∷ []) c.self.invariant)

pub returns-clause-ok : goal.returns-clause-ok
returns-clause-ok g c = rows_of-more c.self.inside.ends.items c.self.inside.items.items c.push.new.self.items c.args.item _ c.self.invariant
    c.self.view_is c.in_ok-push.ensures.items
