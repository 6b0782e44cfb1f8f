use Rattle.std.proofs.Common.{◌∙◌, sym}
use Rattle.std.proofs.lemmas.Bool.{true≢false}
use Rattle.spectro_solve.proofs.StaleSplits.{swap-none, swap-stale}
use Rattle.spectro_solve.proofs.fresh.is_swap_fresh.Goals as goal

pub returns-in-Some : goal.returns-in-Some
returns-in-Some c clear system weighing starts source x here =
    swap-stale system weighing starts c.args.arena.now source c.args.fresh.now c.args.k x here c.args.i c.in-Some.turned c.in-Some.ensures
    (λ marked. true≢false (sym (c.is_marked.ensures.1 marked) ∙ clear))

pub returns-in-None : goal.returns-in-None
returns-in-None c clear system weighing starts source x here =
    swap-none system weighing starts c.args.arena.now source c.args.fresh.now c.args.k x here c.args.i c.in-None.ensures
