use Rattle.std.proofs.Common.{◌≡◌, ◌++◌, map}
use Rattle.std.specs.Prelude.{string_bytes}
use Rattle.spectro_lts.specs.Ranks.{texts_of}
use Rattle.spectro_lts.proofs.ranks.sorted_labels.Given as goal

abbrev pub invariant-loop-label : goal.invariant-loop-label
invariant-loop-label l = texts_of l.sorted.items ++ map string_bytes l.label-iterator ≡ map string_bytes l.labels.keys
