use Rattle.std.proofs.Common.{◌≡◌, ◌∙◌, inl, inr, ap, length}
use Rattle.std.proofs.lemmas.Result.{on_ok_weaker}
use Rattle.spectro_solve.proofs.Listing.{pair-holds}
use Rattle.spectro_solve.proofs.fresh.add_fresh_splits.Goals as goal

pub returns-then-size-eq1 : goal.returns-then-size-eq1
returns-then-size-eq1 c = on_ok_weaker c.add_turned.result (λ added system weighing starts source x here. inl (
  ap length (pair-holds c.args.arena.now.pairs c.args.k (λ y. y.set ≡ c.set-size.result.now) c.set-size.ensures.value x here) ∙ c.if-size-eq1.true,
  added system weighing starts source x here,
)) c.add_turned.ensures

pub returns : goal.returns
returns c = on_ok_weaker c.add_splits.result (λ added system weighing starts source x here. inr (inr (added system weighing starts source x here)))
    c.add_splits.ensures
