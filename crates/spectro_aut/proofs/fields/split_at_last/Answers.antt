use Rattle.std.proofs.Common.{◌∙◌, sym}
use Rattle.spectro_aut.proofs.Splits.{last_split-none, last_split-at}
use Rattle.spectro_aut.proofs.fields.split_at_last.Goals as goal

pub returns-in_err-behind : goal.returns-in_err-behind
returns-in_err-behind c = rw c.from_residual.ensures
    (sym (last_split-none c.args.sought c.args.text.now (sym c.last_place.ensures.place ∙ c.in_err-behind.was)))

pub returns : goal.returns
returns c = sym (last_split-at c.args.sought c.args.text.now c.in_ok-behind.behind
    (sym c.last_place.ensures.place ∙ c.in_ok-behind.was) c.in_ok-behind.ensures.within)
