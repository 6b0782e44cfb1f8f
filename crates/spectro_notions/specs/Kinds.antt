-- The names of the kinds of faults, and how a fault is printed.
use Rattle.std.specs.Prelude.{ℕ, List, ◌++◌, codes}
use Rattle.std.specs.Fmt.{decimal}
use Rattle.spectro_notions.specs.declared.error.NotionFault.{NotionFault}
use Rattle.spectro_notions.specs.declared.error.NotionKind.{NotionKind}
use Rattle.spectro_notions.specs.declared.error.NotionKind.TheVariants.{TooLong, NotText, BadLine, BadNumber, Repeated, TooMany, NoNotion}

-- the name of the kind
abbrev pub kind_name : NotionKind → List ℕ
kind_name TooLong = codes "TooLong"
kind_name NotText = codes "NotText"
kind_name BadLine = codes "BadLine"
kind_name BadNumber = codes "BadNumber"
kind_name Repeated = codes "Repeated"
kind_name TooMany = codes "TooMany"
kind_name NoNotion = codes "NoNotion"

-- line LINE: KIND
abbrev pub fault_text : NotionFault → List ℕ
fault_text fault = codes "line " ++ decimal fault.line ++ codes ": " ++ kind_name fault.kind
