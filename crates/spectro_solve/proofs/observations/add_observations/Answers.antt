use Rattle.std.proofs.Common.{arith, ◌+◌, ◌∙◌, ◌≡◌, length, sym}
use Rattle.spectro_game.specs.Update.{observe}
use Rattle.spectro_game.specs.Pairs.{observed}
use Rattle.spectro_game.specs.Rows.{listed_at}
use Rattle.spectro_solve.specs.Added.{IsMadeBy}
use Rattle.spectro_solve.specs.Observations.{AffordsAmong, AffordsObservation}
use Rattle.spectro_solve.proofs.Adding.{added-then, added-same}
use Rattle.spectro_solve.proofs.Listing.{listed-at, pair-holds}
use Rattle.spectro_solve.proofs.ObservedPrices.{among-all, among-more}
use Rattle.spectro_solve.proofs.observations.add_observations.Goals as goal

pub loop-i-preserved : goal.loop-i-preserved
loop-i-preserved c system weighing starts source x here =
    added-then (AffordsAmong weighing system (listed_at c.args.arena.now.pairs c.args.lists.now) x c.loop-i.i)
    (IsMadeBy (observe c.observation-observation.result.weight) c.index-lists-observation.result)
    (AffordsAmong weighing system (listed_at c.args.arena.now.pairs c.args.lists.now) x (c.loop-i.i + 1)) c.args.made.now c.loop-i.made c.add_pulled.new.made
    (c.loop-i.invariant system weighing starts source x here) c.in_ok-add_pulled.ensures
    (among-more weighing system (listed_at c.args.arena.now.pairs c.args.lists.now) c.args.arena.now.pairs x c.args.k c.loop-i.i
    c.observation-observation.result.label c.observation-observation.result.pair c.observation-observation.result.weight c.index-lists-observation.result here
    (c.observation-observation.ensures.observation system weighing starts source)
    (λ y there. listed-at system weighing starts c.args.arena.now source c.args.lists.now c.observation-observation.result.pair y
    c.index-lists-observation.result there (omega (arith, c.observation-observation.ensures.pair, c.requires.lists)) ∙ sym c.index-lists-observation.is))

pub returns : goal.returns
returns c system weighing starts source x here =
    added-same (AffordsAmong weighing system (listed_at c.args.arena.now.pairs c.args.lists.now) x c.loop-i.i)
    (AffordsObservation weighing system (listed_at c.args.arena.now.pairs c.args.lists.now) x) c.args.made.now c.loop-i.made
    (c.loop-i.invariant system weighing starts source x here)
    (among-all weighing system (listed_at c.args.arena.now.pairs c.args.lists.now) x c.loop-i.i
    (let count : c.observation_count-i-end.result ≡ length (observed system x) = pair-holds c.args.arena.now.pairs c.args.k
    (λ y. c.observation_count-i-end.result ≡ length (observed system y)) (c.observation_count-i-end.ensures.count system weighing starts source) x here in
    omega (arith, count, c.loop-i-test.false)))
