use Rattle.std.proofs.Common.{arith, refl, sym, subst}
use Rattle.std.proofs.lemmas.Bool.{true≢false}
use Rattle.spectro_game.specs.Update.{observe}
use Rattle.spectro_rows.specs.Rows.{row_at}
use Rattle.spectro_solve.specs.Added.{IsAdded, IsMadeBy}
use Rattle.spectro_solve.specs.Fresh.{AffordsFreshAt}
use Rattle.spectro_solve.proofs.Adding.{added-nothing, added-same}
use Rattle.spectro_solve.proofs.FreshPrices.{fresh-observation, stale-observation}
use Rattle.spectro_solve.proofs.Listing.{row-is}
use Rattle.spectro_solve.proofs.fresh.add_fresh_observation.Goals as goal

pub returns-then-not-is_marked : goal.returns-then-not-is_marked
returns-then-not-is_marked c system weighing starts source x here =
    added-nothing (AffordsFreshAt weighing system c.args.arena.now c.args.lists.now c.args.fresh.now x c.args.i) c.args.made.now
    (stale-observation system weighing starts c.args.arena.now source c.args.lists.now c.args.fresh.now c.args.k c.args.i
    c.observation-observation.result.label c.observation-observation.result.pair c.observation-observation.result.weight x here
    (c.observation-observation.ensures.observation system weighing starts source)
    (λ marked. true≢false (sym (c.if-not-is_marked.ensures.1 marked))))

pub returns : goal.returns
returns c system weighing starts source x here =
    added-same (IsMadeBy (observe c.observation-observation.result.weight) (row_at c.args.lists.now c.observation-observation.result.pair))
    (AffordsFreshAt weighing system c.args.arena.now c.args.lists.now c.args.fresh.now x c.args.i) c.args.made.now c.add_pulled.new.made
    (subst (λ es. IsAdded (IsMadeBy (observe c.observation-observation.result.weight) es) c.args.made.now c.add_pulled.new.made)
    (sym (row-is c.args.lists.now c.observation-observation.result.pair c.index-lists-observation.result
    (omega (arith, c.observation-observation.ensures.pair, c.requires.lists)) c.index-lists-observation.is)) c.in_ok-add_pulled.ensures)
    (fresh-observation system weighing starts c.args.arena.now source c.args.lists.now c.args.fresh.now c.args.k c.args.i
    c.observation-observation.result.label c.observation-observation.result.pair c.observation-observation.result.weight x here
    (c.observation-observation.ensures.observation system weighing starts source) (c.if-not-is_marked.ensures.0 refl))
