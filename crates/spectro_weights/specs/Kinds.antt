-- The names of the kinds of faults, and how a fault is printed.
use Rattle.std.specs.Prelude.{ℕ, List, ◌++◌, codes}
use Rattle.std.specs.Fmt.{decimal}
use Rattle.spectro_weights.specs.declared.error.WeightFault.{WeightFault}
use Rattle.spectro_weights.specs.declared.error.WeightKind.{WeightKind}
use Rattle.spectro_weights.specs.declared.error.WeightKind.TheVariants.{TooLong, NotText, BadLine, BadLabel, BadWeight, Repeated, TooManyLabels}

-- the name of the kind
abbrev pub kind_name : WeightKind → List ℕ
kind_name TooLong = codes "TooLong"
kind_name NotText = codes "NotText"
kind_name BadLine = codes "BadLine"
kind_name BadLabel = codes "BadLabel"
kind_name BadWeight = codes "BadWeight"
kind_name Repeated = codes "Repeated"
kind_name TooManyLabels = codes "TooManyLabels"

-- line LINE: KIND
abbrev pub fault_text : WeightFault → List ℕ
fault_text fault = codes "line " ++ decimal fault.line ++ codes ": " ++ kind_name fault.kind
