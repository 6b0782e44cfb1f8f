use Rattle.std.proofs.Common.{◌∙◌, map, ap, subst}
use Rattle.spectro_hml.specs.Nodes.{node_kept}
use Rattle.spectro_hml.specs.Sheets.{IsSheet, all_node}
use Rattle.spectro_hml.proofs.NodePlaces.{sheet_more}
use Rattle.spectro_hml.proofs.sheet.Sheet.push_all.Goals as goal

pub invariant_of-self-2 : goal.invariant_of-self-2
invariant_of-self-2 c =
    let was = ap (map node_kept) c.in_ok-reserve.ensures.items ∙ c.self.view_is in
    sheet_more c.push_reserved.new.self.items c.reserve.new.self.items _ c.args.self.now (all_node c.args.clauses.now) c.push_reserved.ensures.items was
    (ap all_node c.in_ok-clauses.ensures.ok) (subst IsSheet c.self.view_is c.self.invariant) (c.requires.rise, c.requires.before)
