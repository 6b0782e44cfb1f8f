use Rattle.std.proofs.Common.{◌∙◌, ◌<◌, length, Some, slice_get, sym, ap, subst}
use Rattle.spectro_hml.specs.Sheets.{IsNodeAt, see_node, all_node}
use Rattle.spectro_hml.specs.declared.sheet.Kept.TheVariants as kept
use Rattle.spectro_hml.proofs.NodePlaces.{node_at}
use Rattle.spectro_hml.proofs.sheet.Sheet.node.Goals as goal

pub returns-in-See-clause-names : goal.returns-in-See-clause-names
returns-in-See-clause-names c =
    let within = subst (λ nodes. c.args.k < length nodes) (sym c.self.view_is) c.requires in
    let at = node_at c.self.inside.nodes.items c.args.k c.index.result.now (kept.See c.in-See.label c.in-See.next) within c.index.ensures c.in-See.is in
    subst (λ label. IsNodeAt c.args.k (see_node label c.in-See.next)) (sym c.as_str.ensures.value) (c.self.invariant c.args.k _ at)

pub returns-in-All-clause-node : goal.returns-in-All-clause-node
returns-in-All-clause-node c =
    let within = subst (λ nodes. c.args.k < length nodes) (sym c.self.view_is) c.requires in
    let at = node_at c.self.inside.nodes.items c.args.k c.index.result.now (kept.All c.in-All.clauses) within c.index.ensures c.in-All.is in
    ap (λ nodes. slice_get nodes c.args.k) (sym c.self.view_is) ∙ at ∙ ap (λ clauses. Some (all_node clauses)) (sym c.as_slice.ensures)

pub returns-in-All-clause-names : goal.returns-in-All-clause-names
returns-in-All-clause-names c =
    let within = subst (λ nodes. c.args.k < length nodes) (sym c.self.view_is) c.requires in
    let at = node_at c.self.inside.nodes.items c.args.k c.index.result.now (kept.All c.in-All.clauses) within c.index.ensures c.in-All.is in
    subst (λ clauses. IsNodeAt c.args.k (all_node clauses)) (sym c.as_slice.ensures) (c.self.invariant c.args.k _ at)
