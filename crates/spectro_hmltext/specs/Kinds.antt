-- The names of the kinds of faults, and how a fault is printed.
use Rattle.std.specs.Prelude.{ℕ, List, ◌++◌, codes}
use Rattle.std.specs.Fmt.{decimal}
use Rattle.spectro_hmltext.specs.declared.error.TextFault.{TextFault}
use Rattle.spectro_hmltext.specs.declared.error.TextKind.{TextKind}
use Rattle.spectro_hmltext.specs.declared.error.TextKind.TheVariants.{TooLong, TooDeep, BadLabel, Unexpected, UnexpectedEnd}

abbrev pub kind_name : TextKind → List ℕ
kind_name TooLong = codes "TooLong"
kind_name TooDeep = codes "TooDeep"
kind_name BadLabel = codes "BadLabel"
kind_name Unexpected = codes "Unexpected"
kind_name UnexpectedEnd = codes "UnexpectedEnd"

-- byte PLACE: KIND
abbrev pub fault_text : TextFault → List ℕ
fault_text fault = codes "byte " ++ decimal fault.at ++ codes ": " ++ kind_name fault.kind
