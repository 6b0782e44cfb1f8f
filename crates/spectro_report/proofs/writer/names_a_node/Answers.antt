use Rattle.std.proofs.Common.{◌≡◌, ◌∙◌, ◌||◌, true, false, ap, sym}
use Rattle.std.specs.List.{list_any}
use Rattle.spectro_report.specs.Texts.{is_by_node}
use Rattle.spectro_report.proofs.writer.names_a_node.Goals as goal

pub returns-then-forth : goal.returns-then-forth
returns-then-forth c =
    let forth : list_any is_by_node c.args.report.now.forth ≡ true = ap (list_any is_by_node) (sym c.all_forth.ensures)
    ∙ sym c.some_is_by_node-forth.ensures ∙ c.if-forth.true in
    c.if-forth.true ∙ sym (ap (λ b. b || list_any is_by_node c.args.report.now.back) forth)

pub returns-else-forth : goal.returns-else-forth
returns-else-forth c =
    let forth : list_any is_by_node c.args.report.now.forth ≡ false = ap (list_any is_by_node) (sym c.all_forth.ensures)
    ∙ sym c.some_is_by_node-forth.ensures ∙ c.if-forth.false in
    c.some_is_by_node-back.ensures ∙ ap (list_any is_by_node) c.all_back.ensures
    ∙ sym (ap (λ b. b || list_any is_by_node c.args.report.now.back) forth)
