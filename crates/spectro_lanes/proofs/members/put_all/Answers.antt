use Rattle.std.proofs.Common.{◌∙◌, ◌++◌, ap, sym}
use Rattle.std.proofs.lemmas.Result.{on_ok_weaker}
use Rattle.spectro_lanes.specs.Members.{prices_held}
use Rattle.spectro_lanes.proofs.Lists.{sups-zero}
use Rattle.spectro_lanes.proofs.members.put_all.Goals as goal

pub returns-in-Many-clause-ok : goal.returns-in-Many-clause-ok
returns-in-Many-clause-ok c = on_ok_weaker c.sup_into.result
    (λ list. list ∙ ap (λ es. c.args.columns.now ++ es) (sups-zero c.in-Many.others ∙ sym (ap prices_held c.in-Many.is))) c.sup_into.ensures.list
