use Rattle.std.proofs.Common.{false, get_or, arith, sym, subst}
use Rattle.std.specs.Prelude.{OnOk, codes, string_bytes}
use Rattle.spectro_hml.specs.declared.node.Clause.{Clause}
use Rattle.spectro_hmltext.specs.Rests.{Leaves}
use Rattle.spectro_hmltext.specs.declared.printer.Rest.TheVariants.{Clauses, Formula}
use Rattle.spectro_hmltext.proofs.Printing.{leaves-front, leaves-none, see-pieces, truth-text, first-pieces, one-named, both-named}
use Rattle.spectro_hmltext.proofs.printer.write_formula.Goals as goal

-- an observation
pub returns-in-See : goal.returns-in-See
returns-in-See c =
    let below = c.in-See.ensures.names.1 in
    leaves-front c.args.sheet.now _ _ _ _ c.write_observation.result _ _ _ c.write_observation.ensures.written c.write_observation.ensures.left
    (see-pieces c.args.sheet.now c.args.node c.in-See.label.now c.in-See.next c.in-See.ensures.node below) (omega arith)
    (one-named c.args.sheet.now (Formula c.in-See.next) (omega (arith, below, c.requires)))

-- a conjunction of no clauses
pub returns-in-All-empty : goal.returns-in-All-empty
returns-in-All-empty c =
    subst (λ text. OnOk c.push_str.result
    (Leaves c.args.sheet.now text (string_bytes c.args.text.now) (string_bytes c.push_str.new.self) c.args.rests.now.items c.args.rests.now.items))
    (sym (truth-text c.args.sheet.now c.args.node c.in-All-empty.clauses.now c.in-All-empty.ensures.node c.in-All-empty.len_below))
    (leaves-none c.args.sheet.now (codes "tt") _ _ _ c.push_str.result c.push_str.ensures.bytes (omega arith))

-- a conjunction of some clauses
pub returns-in-All : goal.returns-in-All
returns-in-All c =
    let none : Clause = record { positive = false; node = 0 } in
    let some = c.in-All.len_at_least in
    let below = c.in-All.ensures.names.1 0 none some in
    leaves-front c.args.sheet.now _ _ _ _ c.write_clause.result _ _ _ c.write_clause.ensures.written c.write_clause.ensures.left
    (first-pieces c.args.sheet.now c.args.node c.in-All.clauses.now none c.in-All.ensures.node some c.in-All.ensures.names.1) (omega arith)
    (both-named c.args.sheet.now (Clauses c.args.node 1) (Formula (get_or c.in-All.clauses.now 0 none).node) c.requires (omega (arith, below, c.requires)))
