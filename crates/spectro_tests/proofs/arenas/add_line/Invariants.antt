use Rattle.std.proofs.Common.{◌≡◌}
use Rattle.spectro_tests.proofs.arenas.add_line.Given as goal

abbrev pub invariant-loop-s : goal.invariant-loop-s
invariant-loop-s l = l.draft.states ≡ l.states
