-- The lines of a report in the pieces in which they are put.
use Rattle.std.proofs.Common.{◌≡◌, ℕ, List, ◌++◌, append_assoc}
use Rattle.std.specs.Prelude.{codes}
use Rattle.std.specs.Fmt.{decimal}
use Rattle.spectro_spec.specs.Price.{Price}
use Rattle.spectro_spec.specs.Notion.{Notion}
use Rattle.spectro_energy.specs.declared.parts.Parts.{Parts}
use Rattle.spectro_notation.specs.Prices.{price_text}
use Rattle.spectro_report.specs.Reports.{Extent, Report}
use Rattle.spectro_report.specs.Summaries.{direction_line, equal, equivalences_line, summary_text, unequal}
use Rattle.spectro_report.specs.Texts.{answer_text, equivalence_line, equivalence_lines, extents_text, game_line, is_equivalence, nodes_part, report_text, shown_text, side_line, verdict_line, verdict_lines}
use Rattle.spectro_report.specs.Verdicts.{Verdict, fails}
use Rattle.spectro_report.specs.declared.verdict.Shown.{Shown}

pub side-pieces : (held side : List ℕ) (extent : Extent)
    → held ++ side_line side extent
    ≡ held ++ (side ++ (codes ": " ++ (decimal extent.states ++ (codes " states, " ++ (decimal extent.transitions ++ codes " transitions\n")))))
side-pieces held side extent = simp append_assoc

pub game-pieces : (held : List ℕ) (report : Report)
    → held ++ game_line report
    ≡ held ++ (codes "pairs " ++ (decimal report.pairs ++ (codes ", positions " ++ (decimal report.size ++ (codes ", energies " ++
    (decimal report.energies ++ codes "\n"))))))
game-pieces held report = simp append_assoc

-- two and three pieces behind what is held
pub two-pieces : (held first second : List ℕ) → held ++ (first ++ second) ≡ (held ++ first) ++ second
two-pieces held first second = simp append_assoc

three-pieces : (held first second third : List ℕ) → held ++ (first ++ second ++ third) ≡ ((held ++ first) ++ second) ++ third
three-pieces held first second third = simp append_assoc

pub extents-pieces : (held : List ℕ) (report : Report)
    → held ++ extents_text report
    ≡ ((held ++ side_line (codes "left") report.left) ++ side_line (codes "right") report.right) ++ game_line report
extents-pieces held report = three-pieces held (side_line (codes "left") report.left) (side_line (codes "right") report.right) (game_line report)

four-pieces : (held first second third fourth : List ℕ)
    → held ++ (first ++ second ++ third ++ fourth) ≡ (((held ++ first) ++ second) ++ third) ++ fourth
four-pieces held first second third fourth = simp append_assoc

pub summary-pieces : (held : List ℕ) (report : Report)
    → held ++ summary_text report
    ≡ (((held ++ extents_text report) ++ direction_line (codes "left to right: ") report.forth) ++ direction_line (codes "right to left: ") report.back)
    ++ equivalences_line report.forth report.back
summary-pieces held report =
    four-pieces held (extents_text report) (direction_line (codes "left to right: ") report.forth) (direction_line (codes "right to left: ") report.back)
    (equivalences_line report.forth report.back)

pub answers-pieces : (held : List ℕ) (forth back : List Verdict)
    → held ++ equivalences_line forth back
    ≡ held ++ (codes "equivalences: " ++ (decimal (equal forth back) ++ (codes " yes, " ++ (decimal (unequal forth back) ++ codes " no\n"))))
answers-pieces held forth back = simp append_assoc

-- the line of a notion that fails
pub failure-pieces : (held name : List ℕ) (parts : Parts) (e : Price) (node : ℕ) (shown : Shown)
    → held ++ verdict_line parts name (fails e node shown) ≡ ((held ++ (name ++ codes " fails ")) ++ price_text parts e) ++
    (codes " " ++ shown_text node shown ++ codes "\n")
failure-pieces held name parts e node shown = simp append_assoc

pub equivalence-pieces : (held name : List ℕ) (forth back : Verdict)
    → held ++ equivalence_line name forth back ≡ (held ++ name) ++ answer_text (is_equivalence forth back)
equivalence-pieces held name forth back = simp append_assoc

eight-pieces : (a b c d e f g h : List ℕ) → a ++ b ++ c ++ d ++ e ++ f ++ g ++ h ≡ (((a ++ (b ++ c)) ++ (d ++ e)) ++ (f ++ g)) ++ h
eight-pieces a b c d e f g h = simp append_assoc

-- a title and the lines of its verdicts
abbrev pub section_text : List ℕ → Parts → List Notion → List Verdict → List ℕ
section_text title parts table verdicts = title ++ verdict_lines parts table verdicts

-- the title and the lines of the equivalences
abbrev pub equivalences_text : List Notion → Report → List ℕ
equivalences_text table report = codes "equivalences\n" ++ equivalence_lines table report.forth report.back

pub report-pieces : (table : List Notion) (parts : Parts) (report : Report)
    → report_text table parts report
    ≡ (((extents_text report ++ section_text (codes "left to right\n") parts table report.forth) ++
    section_text (codes "right to left\n") parts table report.back) ++ equivalences_text table report) ++ nodes_part report
report-pieces table parts report =
    eight-pieces (extents_text report) (codes "left to right\n") (verdict_lines parts table report.forth) (codes "right to left\n")
    (verdict_lines parts table report.back) (codes "equivalences\n") (equivalence_lines table report.forth report.back) (nodes_part report)
