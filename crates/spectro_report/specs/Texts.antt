-- The text of a report.
use Rattle.std.specs.Prelude.{ℕ, Bool, true, false, List, [], ◌++◌, ◌||◌, ◌&&◌, codes, if◌then◌else◌}
use Rattle.std.specs.Fmt.{decimal}
use Rattle.std.specs.List.{flat_map, list_any, zip}
use Rattle.spectro_spec.specs.Notion.{Notion}
use Rattle.spectro_energy.specs.declared.parts.Parts.{Parts}
use Rattle.spectro_notation.specs.Prices.{price_text}
use Rattle.spectro_notions.specs.Tables.{names_of}
use Rattle.spectro_hmltext.specs.SheetTexts.{sheet_text}
use Rattle.spectro_report.specs.Verdicts.{Verdict, holds, fails}
use Rattle.spectro_report.specs.Reports.{Extent, Report}
use Rattle.spectro_report.specs.declared.verdict.Shown.{Shown}
use Rattle.spectro_report.specs.declared.verdict.Shown.TheVariants.{Inline, ByNode}

-- SIDE: N states, T transitions, and LF
abbrev pub side_line : List ℕ → Extent → List ℕ
side_line side extent = side ++ codes ": " ++ decimal extent.states ++ codes " states, " ++ decimal extent.transitions ++ codes " transitions\n"

-- pairs P, positions S, energies E, and LF
abbrev pub game_line : Report → List ℕ
game_line report =
    codes "pairs " ++ decimal report.pairs ++ codes ", positions " ++ decimal report.size ++ codes ", energies " ++ decimal report.energies ++ codes "\n"

-- the lines of both sides and of the game
abbrev pub extents_text : Report → List ℕ
extents_text report = side_line (codes "left") report.left ++ side_line (codes "right") report.right ++ game_line report

-- the text of the formula, or `node` and its number
abbrev pub shown_text : ℕ → Shown → List ℕ
shown_text node (Inline text) = text
shown_text node ByNode = codes "node " ++ decimal node

-- NAME holds, or NAME fails with the price and the formula, and LF
abbrev pub verdict_line : Parts → List ℕ → Verdict → List ℕ
verdict_line parts name holds = name ++ codes " holds\n"
verdict_line parts name (fails e node shown) = name ++ codes " fails " ++ price_text parts e ++ codes " " ++ shown_text node shown ++ codes "\n"

-- a line for each notion, with its verdict
abbrev pub verdict_lines : Parts → List Notion → List Verdict → List ℕ
verdict_lines parts table verdicts = flat_map (λ said. verdict_line parts said.0 said.1) (zip (names_of table) verdicts)

-- whether the notion is said to hold
abbrev pub is_holding : Verdict → Bool
is_holding holds = true
is_holding (fails e node shown) = false

abbrev pub answer_text : Bool → List ℕ
answer_text both = if both then codes " yes\n" else codes " no\n"

-- whether the notion is said to hold in both directions
abbrev pub is_equivalence : Verdict → Verdict → Bool
is_equivalence forth back = is_holding forth && is_holding back

-- NAME yes where the notion holds in both directions, else NAME no, and LF
abbrev pub equivalence_line : List ℕ → Verdict → Verdict → List ℕ
equivalence_line name forth back = name ++ answer_text (is_equivalence forth back)

-- a line for each notion, with its two verdicts
abbrev pub equivalence_lines : List Notion → List Verdict → List Verdict → List ℕ
equivalence_lines table forth back = flat_map (λ said. equivalence_line said.0 said.1.0 said.1.1) (zip (names_of table) (zip forth back))

-- whether the verdict names a node in place of its formula
abbrev pub is_by_node : Verdict → Bool
is_by_node holds = false
is_by_node (fails e node (Inline text)) = false
is_by_node (fails e node ByNode) = true

-- whether a line of the report names a node
abbrev pub names_a_node : Report → Bool
names_a_node report = list_any is_by_node report.forth || list_any is_by_node report.back

-- where a line names a node, the line `nodes` and the lines of the whole sheet
abbrev pub nodes_part : Report → List ℕ
nodes_part report = if names_a_node report then codes "nodes\n" ++ sheet_text report.nodes else []

-- the extents, the verdicts from left to right and from right to left, the equivalences, and the sheet where a line names a node of it
abbrev pub report_text : List Notion → Parts → Report → List ℕ
report_text table parts report =
    extents_text report ++ codes "left to right\n" ++ verdict_lines parts table report.forth
    ++ codes "right to left\n" ++ verdict_lines parts table report.back
    ++ codes "equivalences\n" ++ equivalence_lines table report.forth report.back ++ nodes_part report
