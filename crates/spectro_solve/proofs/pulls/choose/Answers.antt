use Rattle.std.proofs.Common.{subst}
use Rattle.spectro_spec.specs.LeastPrices.{Covers}
use Rattle.spectro_energy.specs.Energy.{price_of}
use Rattle.spectro_solve.proofs.Adding.{chosen-none, chosen-one, low-one}
use Rattle.spectro_solve.proofs.pulls.choose.Goals as goal

pub returns-then-covers-clause-chosen : goal.returns-then-covers-clause-chosen
returns-then-covers-clause-chosen c = chosen-none (price_of c.args.e.parts) c.args.made.now c.args.chosen.now
    (subst (Covers c.args.made.now) c.inverse.ensures (c.covers.ensures.0 c.if-covers.true))

pub returns-clause-chosen : goal.returns-clause-chosen
returns-clause-chosen c = chosen-one (price_of c.args.e.parts) c.args.made.now c.args.chosen.now c.insert.new.self c.in_ok-insert.ensures.list

pub returns-clause-low : goal.returns-clause-low
returns-clause-low c = low-one (price_of c.args.e.parts) c.args.chosen.now c.insert.new.self c.in_ok-insert.ensures.list c.requires
