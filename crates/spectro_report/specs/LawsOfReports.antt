-- Laws of reports.
use Rattle.std.specs.Prelude.{◌≡◌, List}
use Rattle.spectro_spec.specs.System.{System}
use Rattle.spectro_spec.specs.Weighing.{Weighing}
use Rattle.spectro_spec.specs.Notion.{Notion}
use Rattle.spectro_energy.specs.declared.parts.Parts.{Parts}
use Rattle.spectro_report.specs.Reports.{Report, IsReport}
use Rattle.spectro_report.specs.Texts.{report_text}

-- two systems have at most one report
abbrev pub ReportsAreOne : Type 0
ReportsAreOne =
    (weighing : Weighing) (left right : System) (table : List Notion) (one other : Report) → IsReport weighing left right table one
    → IsReport weighing left right table other → one ≡ other

-- any two reports on the same systems have the same text
abbrev pub ReportsHaveOneText : Type 0
ReportsHaveOneText =
    (weighing : Weighing) (left right : System) (table : List Notion) (parts : Parts) (one other : Report) → IsReport weighing left right table one
    → IsReport weighing left right table other → report_text table parts one ≡ report_text table parts other

-- there is a report on any two systems
abbrev pub ReportsExist : Type 0
ReportsExist = (weighing : Weighing) (left right : System) (table : List Notion) → (report : Report) × IsReport weighing left right table report
