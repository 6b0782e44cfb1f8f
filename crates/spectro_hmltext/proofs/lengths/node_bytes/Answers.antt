use Rattle.std.proofs.Common.{◌∙◌, ◌+◌, ◌-◌, ◌^◌, min, get_or, ap}
use Rattle.spectro_hmltext.proofs.TextLengths.{text_bytes-see, text_bytes-none, text_bytes-all}
use Rattle.spectro_hmltext.proofs.lengths.node_bytes.Goals as goal

pub returns-in-See : goal.returns-in-See
returns-in-See c =
    c.saturating_add.ensures ∙ ap (λ n. min (get_or c.args.before.now c.in-See.next 0 + (n + 2)) (2 ^ 64 - 1)) c.label_bytes.ensures.value
    ∙ text_bytes-see c.args.sheet.now c.args.k c.args.before.now c.requires.before c.in-See.label.now c.in-See.next c.in-See.ensures.node
    c.in-See.ensures.names.1

pub returns-in-All-empty : goal.returns-in-All-empty
returns-in-All-empty c = text_bytes-none c.args.sheet.now c.args.k c.args.before.now c.requires.before c.in-All-empty.clauses.now
    c.in-All-empty.ensures.node c.in-All-empty.len_below

pub returns-in-All : goal.returns-in-All
returns-in-All c =
    c.conjunction_bytes.ensures
    ∙ text_bytes-all c.args.sheet.now c.args.k c.args.before.now c.requires.before c.in-All.clauses.now c.in-All.ensures.node c.in-All.len_at_least
    c.in-All.ensures.names.1
