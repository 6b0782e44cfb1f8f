use Rattle.std.proofs.Common.{arith}
use Rattle.std.proofs.lemmas.List.Elements.{All-nil}
use Rattle.spectro_weights.proofs.Entries.{IsDistinct-weighing_of}
use Rattle.spectro_weights.proofs.weights.Weights.new.Goals as goal

pub invariant_of-result : goal.invariant_of-result
invariant_of-result c = record {
  distinct = IsDistinct-weighing_of c.new.result.entries c.new.ensures.unique;
  few = rw c.new.ensures.empty (omega arith);
  weights = rw c.new.ensures.empty (All-nil _);
}
