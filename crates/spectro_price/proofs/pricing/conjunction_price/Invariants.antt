use Rattle.spectro_energy.specs.Energy.{price_of}
use Rattle.spectro_price.proofs.Conjunctions.{IsCost}
use Rattle.spectro_price.proofs.Passes.{passed}
use Rattle.spectro_price.proofs.pricing.conjunction_price.Given as goal

abbrev pub invariant-loop-clause : goal.invariant-loop-clause
invariant-loop-clause l = IsCost (passed l.before l.clauses l.clause-index) (price_of l.cost.parts) l.deepest l.other
