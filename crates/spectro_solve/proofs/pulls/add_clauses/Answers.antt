use Rattle.std.proofs.Common.{arith, length, ◌<◌, ◌∙◌, ap, sym}
use Rattle.spectro_game.specs.Update.{inverse, to_other}
use Rattle.spectro_energy.specs.Energy.{price_of}
use Rattle.spectro_energy.specs.Updates.{update_of}
use Rattle.spectro_solve.specs.Added.{IsClauseOf}
use Rattle.spectro_solve.proofs.Adding.{Contains-item, added-all, added-more, of-one}
use Rattle.spectro_solve.proofs.pulls.add_clauses.Goals as goal

pub loop-k-preserved : goal.loop-k-preserved
loop-k-preserved c =
    let below : c.loop-k.k < length c.args.from.now = omega (arith, c.loop-k-test.true, c.len-k-end.ensures) in
    let is = c.inverse-in-loop-k.ensures ∙ ap (inverse to_other) c.inverse.ensures in (
      added-more (λ f. inverse to_other (inverse (update_of c.args.sign) f)) c.args.from.now c.loop-k.k (price_of c.inverse-in-loop-k.result.parts)
          (price_of c.item.result.parts) c.args.made.now c.loop-k.made c.insert.new.self below c.loop-k.invariant.0
          c.in_ok-insert.ensures.list is c.item.ensures,
      of-one (IsClauseOf (update_of c.args.sign) c.args.from.now) (price_of c.inverse-in-loop-k.result.parts) c.args.made.now c.loop-k.made c.insert.new.self
          c.loop-k.invariant.1 c.in_ok-insert.ensures.list
          (price_of c.item.result.parts, Contains-item c.args.from.now c.loop-k.k (price_of c.item.result.parts) below c.item.ensures, sym is),
    )

pub returns-clause-added : goal.returns-clause-added
returns-clause-added c = added-all (λ f. inverse to_other (inverse (update_of c.args.sign) f)) c.args.from.now c.loop-k.k c.args.made.now c.loop-k.made
    (omega (arith, c.loop-k-test.false, c.len-k-end.ensures)) c.loop-k.invariant.0
