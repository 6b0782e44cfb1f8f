use Rattle.std.proofs.Common.{◌∙◌, ◌+◌, length, [], take, false, max, ap, map, sym, subst, get_or, arith}
use Rattle.std.proofs.lemmas.List.{take_all}
use Rattle.spectro_spec.specs.Price.{IsAtMost}
use Rattle.spectro_spec.specs.Pricing.{price_of_conjunction}
use Rattle.spectro_game.specs.Sup.{sup}
use Rattle.spectro_game.specs.Update.{inverse, conjoin}
use Rattle.spectro_energy.specs.Energy.{price_of, prices_of}
use Rattle.spectro_energy.specs.declared.energy.Energy.{Energy}
use Rattle.spectro_hml.specs.declared.node.Clause.{Clause}
use Rattle.spectro_price.specs.NodePrices.{limit, priced_clause}
use Rattle.spectro_price.proofs.Conjunctions.{IsCost-plus, IsCost-minus, price_of_conjunction-from_cost}
use Rattle.spectro_price.proofs.Passes.{read-low, conjunction-low, passed, passed-plus, passed-minus}
use Rattle.spectro_price.proofs.pricing.conjunction_price.Goals as goal
use Rattle.spectro_price.proofs.pricing.conjunction_price.Goals.{then-clause, else-clause}

pub inverse-requires : goal.inverse-requires
inverse-requires c =
    let clause = get_or c.args.clauses.now c.loop-clause.clause-index (record { positive = false; node = 0 }) in
    let low = read-low (length c.args.before.now + 1) c.args.before.now clause.node (record { parts = [] })
    (c.requires.names c.loop-clause.clause-index (record { positive = false; node = 0 }) c.loop-clause-test.true) c.requires.low in
    omega (arith, low.negations, c.requires.few)

pub loop-clause-preserved : goal.loop-clause-preserved
loop-clause-preserved c =
    let none : Clause = record { positive = false; node = 0 } in
    let zero : Energy = record { parts = [] } in
    let clause = get_or c.args.clauses.now c.loop-clause.clause-index none in
    let e = price_of (get_or c.args.before.now clause.node zero).parts in
    let named = c.requires.names c.loop-clause.clause-index none c.loop-clause-test.true in
    elim c.if-clause.branch [
      | then-clause w ↦
          IsCost-plus (passed c.args.before.now c.args.clauses.now c.loop-clause.clause-index) _ _ _ _ _ _ _ e c.loop-clause.invariant
          (passed-plus c.args.before.now c.args.clauses.now c.loop-clause.clause-index none zero c.loop-clause-test.true named w.if-clause.true)
          (ap (λ energy. price_of energy.parts) w.cost-is ∙ w.sup-cost.ensures) (w.deepest-is ∙ w.max-deepest.ensures) (w.other-is ∙ w.max-other.ensures
          ∙ ap (max c.loop-clause.other) w.min.ensures)
      | else-clause w ↦
          IsCost-minus (passed c.args.before.now c.args.clauses.now c.loop-clause.clause-index) _ _ _ _ _ _ _ e c.loop-clause.invariant
          (passed-minus c.args.before.now c.args.clauses.now c.loop-clause.clause-index none zero c.loop-clause-test.true named w.if-clause.false)
          (ap (λ energy. price_of energy.parts) w.cost-is ∙ w.sup-cost-else-clause.ensures
          ∙ ap (sup (price_of c.loop-clause.cost.parts)) w.inverse.ensures) w.deepest-is w.other-is
    ]

pub inverse-requires-2 : goal.inverse-requires-2
inverse-requires-2 c =
    let done = passed c.args.before.now c.args.clauses.now c.loop-clause.clause-index in
    let is = ap (λ e. (inverse conjoin e).conjunctions) c.sup.ensures
    ∙ ap (λ e. e.conjunctions) (price_of_conjunction-from_cost done _ _ _ c.loop-clause.invariant) in
    let low = conjunction-low (length c.args.before.now) (prices_of c.args.before.now) (take c.loop-clause.clause-index c.args.clauses.now) c.requires.low in
    omega (arith, is, low.conjunctions, c.requires.few)

pub returns-clause-value : goal.returns-clause-value
returns-clause-value c =
    let done = passed c.args.before.now c.args.clauses.now c.loop-clause.clause-index in
    c.inverse-2.ensures ∙ ap (inverse conjoin) c.sup.ensures ∙ price_of_conjunction-from_cost done _ _ _ c.loop-clause.invariant
    ∙ ap (λ clauses. price_of_conjunction (map (priced_clause (prices_of c.args.before.now)) clauses))
    (take_all c.loop-clause.clause-index c.args.clauses.now c.loop-clause-test.false)

pub returns-clause-low : goal.returns-clause-low
returns-clause-low c =
    subst (λ e. IsAtMost e (limit (length c.args.before.now + 2))) (sym (returns-clause-value c))
    (conjunction-low (length c.args.before.now) (prices_of c.args.before.now) c.args.clauses.now c.requires.low)
