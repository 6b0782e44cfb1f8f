use Rattle.std.proofs.Common.{◌≡◌, length}
use Rattle.spectro_demo.proofs.Growing.{left_below}
use Rattle.spectro_demo.proofs.systems.demo_left.Given as goal

abbrev pub invariant-loop-s : goal.invariant-loop-s
invariant-loop-s l = record { system : l.draft ≡ left_below l.n l.s; size : length l.draft.steps ≡ l.s }
