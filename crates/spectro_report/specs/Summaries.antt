-- The summary of a report.
use Rattle.std.specs.Prelude.{ℕ, List, ◌++◌, not, codes}
use Rattle.std.specs.Fmt.{decimal}
use Rattle.std.specs.List.{count_by, zip}
use Rattle.spectro_report.specs.Verdicts.{Verdict}
use Rattle.spectro_report.specs.Reports.{Report}
use Rattle.spectro_report.specs.Texts.{extents_text, is_equivalence, is_holding}

-- how many notions are said to hold
abbrev pub holding : List Verdict → ℕ
holding verdicts = count_by is_holding verdicts

-- how many notions are said to fail
abbrev pub failing : List Verdict → ℕ
failing verdicts = count_by (λ verdict. not (is_holding verdict)) verdicts

-- how many notions are said to hold in both directions
abbrev pub equal : List Verdict → List Verdict → ℕ
equal forth back = count_by (λ both. is_equivalence both.0 both.1) (zip forth back)

-- how many notions are said to fail in one direction or in both
abbrev pub unequal : List Verdict → List Verdict → ℕ
unequal forth back = count_by (λ both. not (is_equivalence both.0 both.1)) (zip forth back)

-- the title, how many notions hold, how many fail, and LF
abbrev pub direction_line : List ℕ → List Verdict → List ℕ
direction_line title verdicts = title ++ decimal (holding verdicts) ++ codes " hold, " ++ decimal (failing verdicts) ++ codes " fail\n"

-- how many notions hold in both directions, how many do not, and LF
abbrev pub equivalences_line : List Verdict → List Verdict → List ℕ
equivalences_line forth back = codes "equivalences: " ++ decimal (equal forth back) ++ codes " yes, " ++ decimal (unequal forth back) ++ codes " no\n"

-- both sides, the size of the game, and how many notions hold from left to right, from right to left, and in both directions
abbrev pub summary_text : Report → List ℕ
summary_text report =
    extents_text report ++ direction_line (codes "left to right: ") report.forth ++ direction_line (codes "right to left: ") report.back
    ++ equivalences_line report.forth report.back
