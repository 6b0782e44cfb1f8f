-- The row of the number lies from the end of the one before up to its own.
use Rattle.std.proofs.Common.{◌≤◌, ◌≡◌, length, get_or, ap, ◌∙◌, arith}
use Rattle.std.proofs.lemmas.List.{get_or_read}
use Rattle.spectro_rows.specs.Rows.{start_of}
use Rattle.spectro_rows.proofs.RowLists.{row_number_below, row-within, row_read}
use Rattle.spectro_rows.proofs.rows.Rows.row.Given.{Over}
use Rattle.spectro_rows.proofs.rows.Rows.row.Goals as goal

pub start-from-requires : goal.start-from-requires
start-from-requires g c = rw c.deref.ensures.value
    (row_number_below _ c.self.inside.items.items _ c.args.k (ap (λ r. r.rows) c.self.view_is) c.requires)

pub index-requires : goal.index-requires
index-requires g c =
    let below = row_number_below c.self.inside.ends.items c.self.inside.items.items _ c.args.k (ap (λ r. r.rows) c.self.view_is) c.requires in
    omega (arith, c.deref.ensures.len, ap length c.deref.ensures.value, below)

-- the row begins before it ends, and ends within the items
within : (g : Over) (c : goal.After-row_known-1 g) → (c.start-from.result ≤ c.index.result.now) × (c.index.result.now ≤ length c.deref-2.result.now)
within g c =
    let ends = c.self.inside.ends.items in
    let below = row_number_below ends c.self.inside.items.items _ c.args.k (ap (λ r. r.rows) c.self.view_is) c.requires in
    let bounds = row-within 0 ends c.self.inside.items.items c.args.k c.self.invariant below in
    let from : c.start-from.result ≡ start_of 0 ends c.args.k = c.start-from.ensures ∙ ap (λ xs. start_of 0 xs c.args.k) c.deref.ensures.value in
    let to : c.index.result.now ≡ get_or ends c.args.k 0 = get_or_read ends c.args.k c.index.result.now below c.index.ensures 0 in
    (omega (arith, from, to, bounds.0), omega (arith, to, bounds.1, ap length c.deref-2.ensures.value))

pub offset_bounds-deref-from : goal.offset_bounds-deref-from
offset_bounds-deref-from g c =
    let w = within g c in
    omega (arith, w.0, w.1)

pub slice_bounds-result-count : goal.slice_bounds-result-count
slice_bounds-result-count g c = (within g c).0

pub slice_bounds-result-start : goal.slice_bounds-result-start
slice_bounds-result-start g c = (within g c).0

pub slice_bounds-result-end : goal.slice_bounds-result-end
slice_bounds-result-end g c = (within g c).1

pub returns : goal.returns
returns g c =
    let ends = c.self.inside.ends.items in
    let rows = ap (λ r. r.rows) c.self.view_is in
    let below = row_number_below ends c.self.inside.items.items _ c.args.k rows c.requires in
    row_read ends c.self.inside.items.items c.deref-2.result.now _ c.args.k c.start-from.result c.index.result.now rows below
    (c.start-from.ensures ∙ ap (λ xs. start_of 0 xs c.args.k) c.deref.ensures.value)
    (get_or_read ends c.args.k c.index.result.now below c.index.ensures 0)
    c.deref-2.ensures.value
