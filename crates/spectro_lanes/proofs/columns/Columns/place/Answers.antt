use Rattle.std.proofs.Common.{◌∙◌, ap}
use Rattle.spectro_game.specs.MinimalElements.{not_above, placed_price}
use Rattle.spectro_energy.specs.Energy.{price_of}
use Rattle.spectro_lanes.proofs.columns.Columns.place.Goals as goal

pub returns-clause-list : goal.returns-clause-list
returns-clause-list c =
    let e = price_of c.args.e.now.parts in
    c.put_in_place.ensures ∙ ap (placed_price e) (c.drop_above.ensures.members ∙ ap (not_above e) (c.reserve.ensures.members ∙ c.self.view_is))
