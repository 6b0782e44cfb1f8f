-- The names of the kinds of faults, and how a fault is printed.
use Rattle.std.specs.Prelude.{ℕ, List, [], ◌++◌, codes}
use Rattle.std.specs.Fmt.{decimal}
use Rattle.spectro_aut.specs.declared.error.AutFault.{AutFault}
use Rattle.spectro_aut.specs.declared.error.AutKind.{AutKind}
use Rattle.spectro_aut.specs.declared.error.AutKind.TheVariants.{NotText, NoHeader, BadHeader, TooManyStates, TooManyTransitions, NoState, BadInitial, BadLine, BadLabel, LabelTooLong, StateRange, TooManyLabels, ExtraLine, MissingLines, TooLong}

abbrev pub kind_name : AutKind → List ℕ
kind_name NotText = codes "NotText"
kind_name NoHeader = codes "NoHeader"
kind_name BadHeader = codes "BadHeader"
kind_name TooManyStates = codes "TooManyStates"
kind_name TooManyTransitions = codes "TooManyTransitions"
kind_name NoState = codes "NoState"
kind_name BadInitial = codes "BadInitial"
kind_name BadLine = codes "BadLine"
kind_name BadLabel = codes "BadLabel"
kind_name LabelTooLong = codes "LabelTooLong"
kind_name StateRange = codes "StateRange"
kind_name TooManyLabels = codes "TooManyLabels"
kind_name ExtraLine = codes "ExtraLine"
kind_name (MissingLines said found) = codes "MissingLines"
kind_name TooLong = codes "TooLong"

-- how many transitions the header said and how many were found, where the kind tells it
abbrev pub counts_text : AutKind → List ℕ
counts_text (MissingLines said found) = codes " said " ++ decimal said ++ codes " found " ++ decimal found
counts_text kind = []

-- line LINE: KIND
abbrev pub fault_text : AutFault → List ℕ
fault_text fault = codes "line " ++ decimal fault.line ++ codes ": " ++ kind_name fault.kind ++ counts_text fault.kind
