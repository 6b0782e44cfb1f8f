use Rattle.std.proofs.Common.{◌≡◌, ◌*◌, length}
use Rattle.spectro_demo.proofs.Growing.{right_below}
use Rattle.spectro_demo.proofs.systems.demo_right.Given as goal

abbrev pub invariant-loop-s : goal.invariant-loop-s
invariant-loop-s l = record { system : l.draft ≡ right_below l.n l.s; size : length l.draft.steps ≡ 2 * l.s }
