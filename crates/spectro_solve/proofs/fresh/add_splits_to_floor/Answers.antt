use Rattle.std.proofs.Common.{inr, sym, ◌∙◌}
use Rattle.std.proofs.lemmas.Bool.{true≢false}
use Rattle.std.proofs.lemmas.Result.{on_ok_weaker}
use Rattle.spectro_solve.proofs.fresh.add_splits_to_floor.Goals as goal

pub returns : goal.returns
returns c = on_ok_weaker c.add_fresh_splits.result (λ added system weighing starts source x here.
    inr ((λ covers. true≢false (sym (c.covers.ensures.1 covers) ∙ c.if-covers.false)), added system weighing starts source x here)) c.add_fresh_splits.ensures
