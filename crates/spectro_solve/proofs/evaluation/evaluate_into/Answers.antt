use Rattle.spectro_game.specs.Rows.{listed_at}
use Rattle.spectro_solve.proofs.Evaluating.{evaluated}
use Rattle.spectro_solve.proofs.evaluation.evaluate_into.Goals as goal

pub returns-clause-made : goal.returns-clause-made
returns-clause-made g c system weighing starts source x here =
    evaluated weighing system (listed_at c.args.arena.now.pairs c.args.lists.now) x c.clear.new.self c.add_observations.new.made c.add_splits.new.made
    c.clear.ensures c.len.ensures.rises c.len.ensures.apart
    (c.in_ok-add_observations.ensures system weighing starts source x here) (c.in_ok-add_splits.ensures system weighing starts source x here)
