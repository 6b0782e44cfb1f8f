use Rattle.std.proofs.Common.{take}
use Rattle.spectro_hml.specs.Sheets.{formulas_of}
use Rattle.spectro_eval.specs.Truths.{AreRows}
use Rattle.spectro_eval.proofs.truth.Truth.of.Given as goal

abbrev pub invariant-loop-node : goal.invariant-loop-node
invariant-loop-node l = AreRows l.lts (formulas_of (take l.node l.sheet)) l.rows.items
