use Rattle.std.proofs.Common.{◌≡◌, ◌+◌, ◌-◌, ◌^◌, min, take}
use Rattle.std.specs.List.{sum_by}
use Rattle.spectro_hmltext.specs.Lengths.{clause_bytes}
use Rattle.spectro_hmltext.proofs.lengths.conjunction_bytes.Given as goal

abbrev pub invariant-loop-clause : goal.invariant-loop-clause
invariant-loop-clause l = l.bytes ≡ min (4 + sum_by (clause_bytes l.before) (take l.clause-index l.clauses)) (2 ^ 64 - 1)
