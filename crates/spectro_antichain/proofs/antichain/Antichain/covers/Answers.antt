use Rattle.std.proofs.Common.{rules, tests, subst, IsTrue}
use Rattle.std.specs.Prelude.{◌↔◌}
use Rattle.std.proofs.lemmas.Iterator.{YieldsList-from_slice}
use Rattle.std.proofs.lemmas.Iterator.Search.{any_from_yields_List}
use Rattle.spectro_spec.specs.LeastPrices.{Covers}
use Rattle.spectro_game.specs.MinimalElements.{is_at_most}
use Rattle.spectro_energy.specs.Energy.{price_of}
use Rattle.spectro_energy.specs.declared.energy.Energy.{Energy}
use Rattle.spectro_antichain.proofs.Prices.{at_most_by, covers_by}
use Rattle.spectro_antichain.proofs.antichain.Antichain.covers.Goals as goal

pub returns : goal.returns
returns c =
    let e = price_of c.args.e.parts in
    let found = any_from_yields_List (λ (f : Energy). is_at_most (price_of f.parts) e) _ _ _ c.any.ensures.ran
    (YieldsList-from_slice c.self.inside.energies.items cc)
    (λ x b q k. (search (rules, tests), at_most_by b (price_of x.now.parts) e (search (rules, tests)))) in
    subst (λ es. IsTrue c.any.result ↔ Covers es e) c.self.view_is (covers_by c.any.result e c.self.inside.energies.items found)
