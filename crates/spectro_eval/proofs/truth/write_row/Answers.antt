use Rattle.std.proofs.Common.{length}
use Rattle.spectro_eval.proofs.Tables.{row_room, see_row, all_row}
use Rattle.spectro_eval.proofs.truth.write_row.Goals as goal

pub returns-in-See : goal.returns-in-See
returns-in-See c =
    see_row c.args.lts.now c.args.sheet.now c.args.node c.in-See.label.now c.in-See.next
    (length c.args.row.now) c.args.rows.now c.row_at.result.now c.write_observation.new.row c.requires.whole c.in-See.ensures.node c.in-See.ensures.names.1
    c.requires.rows c.requires.row c.row_at.ensures.value c.write_observation.ensures

pub returns-in-All : goal.returns-in-All
returns-in-All c =
    all_row c.args.lts.now c.args.sheet.now c.args.node c.in-All.clauses.now
    (length c.args.row.now) c.args.rows.now c.write_conjunction.new.row c.in-All.ensures.node c.in-All.ensures.names.1 c.requires.rows c.requires.row
    c.write_conjunction.ensures

pub row_at-requires : goal.row_at-requires
row_at-requires c = row_room c.args.lts.now c.args.sheet.now c.args.node c.in-See.next
    (length c.args.row.now) c.args.rows.now c.requires.node c.requires.rows c.requires.row c.in-See.ensures.names.1

pub write_conjunction-requires : goal.write_conjunction-requires
write_conjunction-requires c = λ i d below. row_room c.args.lts.now c.args.sheet.now c.args.node _
    (length c.args.row.now) c.args.rows.now c.requires.node c.requires.rows c.requires.row (c.in-All.ensures.names.1 i d below)
