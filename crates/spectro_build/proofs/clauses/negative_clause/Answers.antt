-- The member against the state alone is the swap.
use Rattle.std.proofs.Common.{◌∙◌, [], ◌∷◌, sym, ap, false, Some, None, arith}
use Rattle.std.specs.Option.{option_map}
use Rattle.spectro_energy.specs.Energy.{price_of}
use Rattle.spectro_game.specs.Pairs.{Pair}
use Rattle.spectro_theory.proofs.Places.{stands-below}
use Rattle.spectro_solve.proofs.Listing.{listed-at}
use Rattle.spectro_build.specs.Choices.{as_negative}
use Rattle.spectro_build.specs.Chosen.{clause_at}
use Rattle.spectro_build.proofs.MemberClauses.{negative-itself, negative-other, signed-fitting, turned-at, turned-none}
use Rattle.spectro_build.proofs.clauses.negative_clause.Goals as goal

pub returns-in_err-turned-clause-value : goal.returns-in_err-turned-clause-value
returns-in_err-turned-clause-value c system weighing starts source x q here member =
    let pairs = c.args.arena.now.pairs in
    let rows = c.args.table.now.rows in
    negative-itself pairs rows x.state q (price_of c.args.e.parts)
    (turned-none pairs c.args.k c.args.i c.swap.result x q c.swap.ensures c.in_err-turned.was here member)
    ∙ sym (ap (option_map (clause_at pairs rows)) c.from_residual.ensures)

pub returns-in_err-key-clause-value : goal.returns-in_err-key-clause-value
returns-in_err-key-clause-value c system weighing starts source x q here member =
    let pairs = c.args.arena.now.pairs in
    let rows = c.args.table.now.rows in
    let turned : Pair = record { state = q; set = x.state ∷ [] } in
    let (apart, there) = turned-at pairs c.args.k c.args.i c.swap.result c.in_ok-turned.turned x q c.swap.ensures c.in_ok-turned.was here member in
    let row = listed-at system weighing starts c.args.arena.now source rows c.in_ok-turned.turned turned [] there
    (omega (arith, stands-below pairs c.in_ok-turned.turned turned there, c.requires.rows)) in
    negative-other pairs rows x.state q (price_of c.args.e.parts) apart
    ∙ signed-fitting pairs rows c.in_ok-turned.turned turned false as_negative (price_of c.args.e.parts) there row None c.in_err-key.ensures.value
    ∙ sym (ap (option_map (clause_at pairs rows)) c.from_residual-in_err-key.ensures)

pub returns-clause-value : goal.returns-clause-value
returns-clause-value c system weighing starts source x q here member =
    let pairs = c.args.arena.now.pairs in
    let rows = c.args.table.now.rows in
    let turned : Pair = record { state = q; set = x.state ∷ [] } in
    let (apart, there) = turned-at pairs c.args.k c.args.i c.swap.result c.in_ok-turned.turned x q c.swap.ensures c.in_ok-turned.was here member in
    let row = listed-at system weighing starts c.args.arena.now source rows c.in_ok-turned.turned turned [] there
    (omega (arith, stands-below pairs c.in_ok-turned.turned turned there, c.requires.rows)) in
    negative-other pairs rows x.state q (price_of c.args.e.parts) apart
    ∙ signed-fitting pairs rows c.in_ok-turned.turned turned false as_negative (price_of c.args.e.parts) there row (Some c.in_ok-key.key)
    c.in_ok-key.ensures.value
