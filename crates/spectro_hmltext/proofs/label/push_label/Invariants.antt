use Rattle.std.proofs.Common.{◌≡◌, [], ◌∷◌, ◌++◌}
use Rattle.std.specs.Prelude.{string_bytes}
use Rattle.std.specs.Str.{encode_utf8_all}
use Rattle.spectro_io.specs.QuotedLabels.{escaped}
use Rattle.spectro_hmltext.proofs.label.push_label.Given as goal

abbrev pub invariant-loop-letter : goal.invariant-loop-letter
invariant-loop-letter l = string_bytes l.text ≡ (string_bytes l.fn.text ++ 34 ∷ []) ++ escaped (encode_utf8_all l.yielded)
