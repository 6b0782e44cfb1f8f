use Rattle.std.proofs.Common.{◌∙◌, ap, length, sym}
use Rattle.std.proofs.lemmas.Result.{on_ok_weaker}
use Rattle.spectro_solve.specs.Fresh.{AffordsTurned, IsFreshNegated}
use Rattle.spectro_solve.proofs.Adding.{added-same}
use Rattle.spectro_solve.proofs.FreshPrices.{turned-made}
use Rattle.spectro_solve.proofs.SubsetPairs.{set-is}
use Rattle.spectro_solve.proofs.fresh.add_turned.Goals as goal

pub returns-in-Some : goal.returns-in-Some
returns-in-Some c = on_ok_weaker c.add_if_fresh.result (λ added system weighing starts source x here.
    added-same (IsFreshNegated c.args.lists.now c.args.fresh.now c.in-Some.turned) (AffordsTurned c.args.arena.now c.args.lists.now c.args.fresh.now x)
    c.args.made.now c.add_if_fresh.new.made added
    (turned-made system weighing starts c.args.arena.now source c.args.lists.now c.args.fresh.now c.args.k c.in-Some.turned x here
    (ap length (sym (set-is c.args.arena.now.pairs c.args.k x here)) ∙ c.requires.one) c.in-Some.ensures)) c.add_if_fresh.ensures
