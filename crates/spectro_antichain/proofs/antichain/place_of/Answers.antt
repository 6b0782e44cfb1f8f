use Rattle.std.proofs.Common.{rules, tests, ◌∙◌, ap, length}
use Rattle.std.specs.Option.{unwrap_or}
use Rattle.std.proofs.lemmas.Iterator.{YieldsList-from_slice}
use Rattle.std.proofs.lemmas.Iterator.Search.{position_from_yields_List}
use Rattle.spectro_energy.specs.Energy.{price_of}
use Rattle.spectro_antichain.specs.Prices.{comes_first}
use Rattle.spectro_antichain.proofs.Prices.{first_by, place-from_position}
use Rattle.spectro_antichain.proofs.antichain.place_of.Goals as goal

pub returns-clause-value : goal.returns-clause-value
returns-clause-value c =
    let found = position_from_yields_List (comes_first c.args.e) _ _ _ c.position.ensures.ran (YieldsList-from_slice c.args.energies.now cc)
    (λ x b q k. (search (rules, tests), first_by b (price_of c.args.e.parts) (price_of x.now.parts) (search (rules, tests)))) in
    c.unwrap_or.ensures ∙ ap (λ o. unwrap_or o (length c.args.energies.now)) found ∙ place-from_position (comes_first c.args.e) c.args.energies.now
