-- The row of the number begins behind the items of those before it, and ends behind its own.
use Rattle.std.proofs.Common.{◌∙◌, length, ap, sym, arith}
use Rattle.std.proofs.lemmas.List.{get_or_read}
use Rattle.spectro_rows.specs.Rows.{start_of}
use Rattle.spectro_rows.proofs.RowLists.{row_number_below, items_before}
use Rattle.spectro_rows.proofs.rows.Rows.range.Goals as goal

pub start-requires : goal.start-requires
start-requires g c = rw c.deref.ensures.value
    (row_number_below _ c.self.inside.items.items _ c.args.k (ap (λ r. r.rows) c.self.view_is) c.requires)

pub index-requires : goal.index-requires
index-requires g c =
    let below = row_number_below c.self.inside.ends.items c.self.inside.items.items _ c.args.k (ap (λ r. r.rows) c.self.view_is) c.requires in
    omega (arith, c.deref.ensures.len, ap length c.deref.ensures.value, below)

pub returns : goal.returns
returns g c =
    let ends = c.self.inside.ends.items in
    let rows = ap (λ r. r.rows) c.self.view_is in
    let below = row_number_below ends c.self.inside.items.items _ c.args.k rows c.requires in
    let up_to = items_before ends c.self.inside.items.items _ c.args.k rows c.self.invariant below in
    record {
      start = c.start.ensures ∙ ap (λ xs. start_of 0 xs c.args.k) c.deref.ensures.value ∙ sym up_to.0;
      end = get_or_read ends c.args.k c.index.result.now below c.index.ensures 0 ∙ sym up_to.1;
    }
