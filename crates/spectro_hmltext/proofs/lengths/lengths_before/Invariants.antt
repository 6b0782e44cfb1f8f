use Rattle.spectro_hmltext.specs.Lengths.{AreLengths}
use Rattle.spectro_hmltext.proofs.lengths.lengths_before.Given as goal

abbrev pub invariant-loop-k : goal.invariant-loop-k
invariant-loop-k l = AreLengths l.sheet l.k l.before.items
