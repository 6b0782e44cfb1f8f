use Rattle.spectro_notions.specs.Bounds.{bound_of}
use Rattle.spectro_report.proofs.Searching.{NoneBefore}
use Rattle.spectro_report.proofs.found.first_within.Given as goal

abbrev pub invariant-loop-k : goal.invariant-loop-k
invariant-loop-k l = NoneBefore l.list (bound_of l.bound.parts) l.k
