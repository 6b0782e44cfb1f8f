-- What is found of a comparison: how large it is, and the text of its report.
use Rattle.std.specs.Prelude.{ℕ, ◌≡◌, List, length}
use Rattle.spectro_spec.specs.Notion.{Notion}
use Rattle.spectro_spec.specs.System.{System}
use Rattle.spectro_spec.specs.Weighing.{Weighing}
use Rattle.spectro_game.specs.Pairs as game
use Rattle.spectro_game.specs.Pairs.{Pair}
use Rattle.spectro_energy.specs.declared.parts.Parts.{Parts}
use Rattle.spectro_report.specs.Reports.{Report}
use Rattle.spectro_report.specs.Texts.{report_text}
use Rattle.spectro_run.specs.Comparisons.{pairs_of, report_of}

-- the comparison has pairs within the limit, so many, with so many positions
pub record IsMeasured (left right : System) (limit count positions : ℕ) : Type 0 where
  pub pairs : List Pair
  pub are : (pairs_of left right limit).Gives pairs
  pub counted : count ≡ length pairs
  pub sized : positions ≡ game.size pairs

-- the comparison is within the limit, and the text is that of its report, with so many parts of each price
pub record IsReportText (left right : System) (weighing : Weighing) (table : List Notion) (parts : Parts) (limit : ℕ) (text : List ℕ) : Type 0 where
  pub report : Report
  pub is : (report_of left right weighing table limit).Gives report
  pub written : text ≡ report_text table parts report
