use Rattle.std.proofs.Common.{◌∙◌, arith, length, sym}
use Rattle.spectro_game.specs.Pairs.{observed}
use Rattle.spectro_energy.specs.Energy.{price_of}
use Rattle.spectro_solve.specs.Fresh.{IsFloor}
use Rattle.spectro_solve.proofs.Listing.{pair-holds, row-is}
use Rattle.spectro_solve.proofs.FreshEvaluating.{evaluated-to-floor}
use Rattle.spectro_solve.proofs.fresh.evaluate_fresh.Goals as goal

pub returns : goal.returns
returns c system weighing starts source x here =
    evaluated-to-floor system weighing starts c.args.arena.now source c.args.lists.now c.requires.lists c.args.fresh.now c.args.k x here
    (c.requires.kept system weighing starts source x here) (price_of c.floor_at-floor.result.parts)
    (pair-holds c.args.arena.now.pairs c.args.k (λ y. IsFloor c.args.arena.now.weights y.set (price_of c.floor_at-floor.result.parts)) c.floor_at-floor.ensures x here)
    (length (observed system x)) (omega arith) c.assign.new.self c.add_fresh_observations.new.made c.add_splits_to_floor.new.made
    (c.in_ok-assign.ensures.ok
    ∙ sym (row-is c.args.lists.now c.args.k c.index-lists-k.result (omega (arith, c.requires.pair, c.requires.lists)) c.index-lists-k.is))
    c.len.ensures.rises c.len.ensures.apart
    (c.in_ok-add_fresh_observations.ensures system weighing starts source x here) (c.in_ok-add_splits_to_floor.ensures system weighing starts source x here)
