use Rattle.spectro_price.proofs.Walks.{ArePrices}
use Rattle.spectro_price.proofs.pricing.prices.Given as goal

abbrev pub invariant-loop-k : goal.invariant-loop-k
invariant-loop-k l = ArePrices l.weights l.sheet l.k l.found.items
