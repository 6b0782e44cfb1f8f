use Rattle.std.proofs.Common.{sym}
use Rattle.spectro_lts.proofs.Numbering.{given_old, given_new}
use Rattle.spectro_lts.proofs.draft.number_label.Goals as goal

pub returns-in-Some-clause-ok : goal.returns-in-Some-clause-ok
returns-in-Some-clause-ok c =
    let found = sym c.in-Some.ensures.found in
    given_old c.args.labels.now.keys c.args.label.now c.in-Some.no (sym c.in-Some.ensures.index) found

pub returns-clause-ok : goal.returns-clause-ok
returns-clause-ok c =
    let stored = c.in_ok-no.ensures.stored in
    given_new c.args.labels.now.keys c.args.label.now c.in_ok-from_str.field-0 c.insert_full.new.self.keys c.in_ok-no.no c.in_ok-from_str.ensures.ok
    (sym c.in_default.ensures.found) c.in_ok-no.ensures.keys stored.0 stored.1 stored.2
