-- The pair of the state and the member alone is the subset of one bit.
use Rattle.std.proofs.Common.{◌∙◌, [], ◌∷◌, length, sym, ap, true, Some, None, arith}
use Rattle.std.specs.Option.{option_map}
use Rattle.spectro_energy.specs.Energy.{price_of}
use Rattle.spectro_game.specs.Pairs.{Pair}
use Rattle.spectro_pairs.specs.Arenas.{set_at}
use Rattle.spectro_theory.proofs.Places.{stands-below}
use Rattle.spectro_solve.proofs.Listing.{listed-at}
use Rattle.spectro_solve.proofs.SubsetPairs.{power-is}
use Rattle.spectro_build.specs.Choices.{as_positive}
use Rattle.spectro_build.specs.Chosen.{clause_at}
use Rattle.spectro_build.proofs.MemberClauses.{alone-at, signed-fitting}
use Rattle.spectro_build.proofs.clauses.positive_clause.Goals as goal

pub subset-alone-requires-clause-mask : goal.subset-alone-requires-clause-mask
subset-alone-requires-clause-mask c =
    let power = power-is c.args.i (length (set_at c.args.arena.now.pairs c.args.k)) c.requires.member c.requires.few in
    omega (arith, power.0, power.1)

pub returns-in_err-key-clause-value : goal.returns-in_err-key-clause-value
returns-in_err-key-clause-value c system weighing starts source x q here member =
    let pairs = c.args.arena.now.pairs in
    let rows = c.args.table.now.rows in
    let alone : Pair = record { state = x.state; set = q ∷ [] } in
    let power = power-is c.args.i (length (set_at pairs c.args.k)) c.requires.member c.requires.few in
    let there = alone-at pairs c.args.k c.args.i _ c.subset-alone.result x q power.0 c.subset-alone.ensures.subset here member in
    let row = listed-at system weighing starts c.args.arena.now source rows c.subset-alone.result alone [] there
    (omega (arith, stands-below pairs c.subset-alone.result alone there, c.requires.rows)) in
    signed-fitting pairs rows c.subset-alone.result alone true as_positive (price_of c.args.e.parts) there row None c.in_err-key.ensures.value
    ∙ sym (ap (option_map (clause_at pairs rows)) c.from_residual.ensures)

pub returns-clause-value : goal.returns-clause-value
returns-clause-value c system weighing starts source x q here member =
    let pairs = c.args.arena.now.pairs in
    let rows = c.args.table.now.rows in
    let alone : Pair = record { state = x.state; set = q ∷ [] } in
    let power = power-is c.args.i (length (set_at pairs c.args.k)) c.requires.member c.requires.few in
    let there = alone-at pairs c.args.k c.args.i _ c.subset-alone.result x q power.0 c.subset-alone.ensures.subset here member in
    let row = listed-at system weighing starts c.args.arena.now source rows c.subset-alone.result alone [] there
    (omega (arith, stands-below pairs c.subset-alone.result alone there, c.requires.rows)) in
    signed-fitting pairs rows c.subset-alone.result alone true as_positive (price_of c.args.e.parts) there row (Some c.in_ok-key.key) c.in_ok-key.ensures.value
