use Rattle.std.proofs.Common.{◌≡◌, ◌++◌, length}
use Rattle.std.specs.Prelude.{All, string_bytes}
use Rattle.spectro_hml.specs.Sheets.{unfolded}
use Rattle.spectro_hmltext.specs.Printed.{formula_text}
use Rattle.spectro_hmltext.specs.Rests.{IsRest, rests_text}
use Rattle.spectro_hmltext.proofs.printer.text_of.Given as goal

abbrev pub invariant-loop-rest : goal.invariant-loop-rest
invariant-loop-rest l = record {
  whole : string_bytes l.text ++ rests_text l.sheet l.rests.items ≡ formula_text (unfolded l.sheet l.node);
  named : All (IsRest l.sheet) l.rests.items;
}

abbrev pub decreases-loop-rest : goal.decreases-loop-rest
decreases-loop-rest l = length (rests_text l.sheet l.rests.items)
