-- There are as many rows as ends.
use Rattle.std.proofs.Common.{length, ap, ◌∙◌, sym}
use Rattle.spectro_rows.proofs.RowLists.{length-rows_to}
use Rattle.spectro_rows.proofs.rows.Rows.len.Goals as goal

pub returns : goal.returns
returns g c = c.len.ensures ∙ c.self.inside.ends.ok.0 ∙ sym (length-rows_to 0 c.self.inside.ends.items c.self.inside.items.items)
    ∙ ap (λ r. length r.rows) c.self.view_is
