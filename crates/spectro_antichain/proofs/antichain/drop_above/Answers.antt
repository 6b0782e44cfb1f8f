use Rattle.std.proofs.Common.{rules, tests, ◌∙◌, ap, not}
use Rattle.std.proofs.lemmas.Fn.{filter_same}
use Rattle.spectro_game.specs.MinimalElements.{is_at_most}
use Rattle.spectro_energy.specs.Energy.{price_of, prices_of}
use Rattle.spectro_antichain.proofs.Prices.{above_by, not_above-prices_of}
use Rattle.spectro_antichain.proofs.antichain.drop_above.Goals as goal

pub returns-clause-list : goal.returns-clause-list
returns-clause-list c =
    ap prices_of (filter_same _ (λ f. not (is_at_most (price_of c.args.e.parts) (price_of f.parts))) _
    (λ x b q k. (above_by b (price_of c.args.e.parts) (price_of x.parts) (search (rules, tests)), search (rules, tests))) _ _ c.retain.ensures.filtered)
    ∙ not_above-prices_of (price_of c.args.e.parts) _
