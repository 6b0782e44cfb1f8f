use Rattle.std.proofs.Common.{◌≡◌}
use Rattle.spectro_tests.proofs.samples.add_all.Given as goal

abbrev pub invariant-loop-from : goal.invariant-loop-from
invariant-loop-from l = l.draft.states ≡ l.states
