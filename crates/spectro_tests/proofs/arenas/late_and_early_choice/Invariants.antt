use Rattle.std.proofs.Common.{◌≡◌}
use Rattle.spectro_tests.proofs.arenas.late_and_early_choice.Given as goal

abbrev pub invariant-loop-first : goal.invariant-loop-first
invariant-loop-first l = l.draft.states ≡ l.states

abbrev pub invariant-loop-from : goal.invariant-loop-from
invariant-loop-from l = l.draft.states ≡ l.states
