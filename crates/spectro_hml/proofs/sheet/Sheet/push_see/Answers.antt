use Rattle.std.proofs.Common.{◌∙◌, map, ap, subst}
use Rattle.spectro_hml.specs.Nodes.{node_kept}
use Rattle.spectro_hml.specs.Sheets.{IsSheet, see_node}
use Rattle.spectro_hml.proofs.NodePlaces.{sheet_more}
use Rattle.spectro_hml.proofs.sheet.Sheet.push_see.Goals as goal

pub invariant_of-self-2 : goal.invariant_of-self-2
invariant_of-self-2 c =
    let was = ap (map node_kept) c.in_ok-reserve.ensures.items ∙ c.self.view_is in
    sheet_more c.push_reserved.new.self.items c.reserve.new.self.items _ c.args.self.now
    (see_node c.args.label.now c.args.next) c.push_reserved.ensures.items was (ap (λ label. see_node label c.args.next) c.in_ok-label.ensures.ok)
    (subst IsSheet c.self.view_is c.self.invariant) (c.requires.label, c.requires.before)
