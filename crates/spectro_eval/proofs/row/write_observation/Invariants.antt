use Rattle.std.proofs.Common.{take}
use Rattle.spectro_eval.specs.Rows.{bits_of}
use Rattle.spectro_eval.proofs.Marking.{IsMarked}
use Rattle.spectro_eval.proofs.row.write_observation.Given as goal

abbrev pub invariant-loop-step : goal.invariant-loop-step
invariant-loop-step l = IsMarked (take l.step-index l.step-items) (bits_of l.lts.states l.next) (bits_of l.lts.states l.row)
