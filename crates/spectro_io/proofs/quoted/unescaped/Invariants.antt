use Rattle.std.proofs.Common.{◌≡◌, ◌++◌, false, drop}
use Rattle.std.specs.Option.{option_map}
use Rattle.spectro_io.specs.Unescaping.{unescaped_behind}
use Rattle.spectro_io.proofs.quoted.unescaped.Given as goal

abbrev pub invariant-loop-byte : goal.invariant-loop-byte
invariant-loop-byte l = unescaped_behind false l.inside ≡ option_map (λ rest. l.label.items ++ rest) (unescaped_behind l.backslash (drop l.byte-index l.inside))
