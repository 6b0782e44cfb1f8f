-- The first row begins at place 0, and each later one where the one before ends.
use Rattle.std.proofs.Common.{◌≢◌, ◌-◌, ◌<◌, length, sym, arith}
use Rattle.spectro_rows.proofs.RowLists.{start_of-first, start_of-later}
use Rattle.spectro_rows.proofs.rows.start.Goals as goal

pub returns-then-k-eq0 : goal.returns-then-k-eq0
returns-then-k-eq0 c = sym (start_of-first 0 c.args.ends.now c.args.k c.if-k-eq0.true)

pub returns-else-k-eq0 : goal.returns-else-k-eq0
returns-else-k-eq0 c =
    let later : c.args.k ≢ 0 = c.if-k-eq0.false in
    let below : c.args.k < length c.args.ends.now = c.requires in
    sym (start_of-later 0 c.args.ends.now c.args.k (c.args.k - 1) (omega arith) (omega arith))
