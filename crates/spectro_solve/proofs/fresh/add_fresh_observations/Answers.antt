use Rattle.std.proofs.Common.{arith, ◌+◌, ◌≡◌, inl, inr, length, refl, subst}
use Rattle.spectro_game.specs.Pairs.{observed}
use Rattle.spectro_solve.specs.Added.{IsAdded}
use Rattle.spectro_solve.specs.Fresh.{AffordsFreshAmong}
use Rattle.spectro_solve.proofs.Listing.{pair-holds}
use Rattle.spectro_solve.proofs.FreshPrices.{one-more, some-fresh}
use Rattle.spectro_solve.proofs.fresh.add_fresh_observations.Goals as goal

pub returns-then-covers : goal.returns-then-covers
returns-then-covers c system weighing starts source x here =
    let count : c.observation_count-i-end.result ≡ length (observed system x) = pair-holds c.args.arena.now.pairs c.args.k
    (λ y. c.observation_count-i-end.result ≡ length (observed system y)) (c.observation_count-i-end.ensures.count system weighing starts source) x here in
    inr (
      some-fresh weighing system c.args.arena.now c.args.lists.now c.args.fresh.now x (c.loop-i.i + 1) (length (observed system x))
          (omega (arith, count, c.loop-i-test.true)) c.args.made.now c.add_fresh_observation.new.made
          (one-more weighing system c.args.arena.now c.args.lists.now c.args.fresh.now x c.loop-i.i c.args.made.now c.loop-i.made c.add_fresh_observation.new.made
          (c.loop-i.invariant system weighing starts source x here) (c.in_ok-add_fresh_observation.ensures system weighing starts source x here)),
      c.if-covers.ensures.0 refl,
    )

pub loop-i-preserved : goal.loop-i-preserved
loop-i-preserved c system weighing starts source x here =
    one-more weighing system c.args.arena.now c.args.lists.now c.args.fresh.now x c.loop-i.i c.args.made.now c.loop-i.made c.add_fresh_observation.new.made
    (c.loop-i.invariant system weighing starts source x here) (c.in_ok-add_fresh_observation.ensures system weighing starts source x here)

pub returns : goal.returns
returns c system weighing starts source x here =
    let count : c.observation_count-i-end.result ≡ length (observed system x) = pair-holds c.args.arena.now.pairs c.args.k
    (λ y. c.observation_count-i-end.result ≡ length (observed system y)) (c.observation_count-i-end.ensures.count system weighing starts source) x here in
    let all : c.loop-i.i ≡ length (observed system x) = omega (arith, count, c.loop-i-test.false, c.loop-i.auto.i-end) in
    inl (subst (λ n. IsAdded (AffordsFreshAmong weighing system c.args.arena.now c.args.lists.now c.args.fresh.now x n) c.args.made.now c.loop-i.made) all
    (c.loop-i.invariant system weighing starts source x here))
