use Rattle.std.proofs.Common.{subst, ltb}
use Rattle.std.specs.Prelude.{◌↔◌, IsTrue}
use Rattle.std.proofs.lemmas.Bool.Decides.{Decides-ltb, Decides-like}
use Rattle.spectro_spec.specs.Price.{IsAtMost}
use Rattle.spectro_spec.specs.LeastPrices.{Covers}
use Rattle.spectro_energy.specs.Energy.{price_of}
use Rattle.spectro_lanes.specs.Columns.{price_at, IsFirst}
use Rattle.spectro_lanes.proofs.Lists.{covers_first}
use Rattle.spectro_lanes.proofs.columns.Columns.covers.Goals as goal

pub returns : goal.returns
returns c =
    let buffer = c.self.inside.buffer in
    let e = price_of c.args.e.now.parts in
    let first = subst (λ xs. IsFirst (λ i. IsAtMost (price_at buffer.stride xs i) e) buffer.len c.first_below-first.result) c.as_slice.ensures.value
    c.first_below-first.ensures in
    let covered = covers_first e (price_at buffer.stride buffer.numbers.items) buffer.len c.first_below-first.result first in
    let below = ltb c.first_below-first.result buffer.len in
    subst (λ es. IsTrue below ↔ Covers es e) c.self.view_is
    (Decides-like below covered.0 covered.1 (Decides-ltb c.first_below-first.result buffer.len))
