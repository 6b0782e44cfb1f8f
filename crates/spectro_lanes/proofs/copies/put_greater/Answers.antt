use Rattle.std.proofs.Common.{◌+◌, ◌<◌, ◌≤◌, ◌⊎◌, ◌∙◌, arith, inl, inr}
use Rattle.spectro_lanes.proofs.Places.{greater_more}
use Rattle.spectro_lanes.proofs.copies.put_greater.Goals as goal

pub loop-k-preserved : goal.loop-k-preserved
loop-k-preserved c =
    let new = c.put_eight_greater.ensures in
    let was = c.loop-k.invariant in (
      omega arith,
      greater_more c.args.from.now c.loop-k.to c.put_eight_greater.new.to c.args.at c.args.place c.args.bound c.loop-k.k new.here new.others was.1,
      (λ p aside. let wide : (p < c.args.place + c.loop-k.k) ⊎ (c.args.place + c.loop-k.k + 8 ≤ p) =
          elim aside [ inl before ↦ inl (omega arith) | inr after ↦ inr (omega arith) ] in new.others p wide ∙ was.2 p aside),
    )
