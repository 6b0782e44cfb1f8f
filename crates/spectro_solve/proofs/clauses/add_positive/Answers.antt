use Rattle.std.proofs.Common.{arith, ◌*◌, ◌%◌, ◌<◌, ◌^◌, length, subst, sym}
use Rattle.std.proofs.lemmas.Result.{on_ok_weaker}
use Rattle.spectro_game.specs.Update.{to_positive}
use Rattle.spectro_game.specs.Rows.{listed_at}
use Rattle.spectro_pairs.specs.Arenas.{set_at}
use Rattle.spectro_solve.specs.Added.{IsClauseBy}
use Rattle.spectro_solve.specs.Clauses.{AffordsPositive}
use Rattle.spectro_solve.proofs.Adding.{added-same}
use Rattle.spectro_solve.proofs.ClauseLists.{positive-low, positive-made, row-low}
use Rattle.spectro_solve.proofs.SubsetPairs.{power-is}
use Rattle.spectro_solve.proofs.clauses.add_positive.Goals as goal

pub subset-alone-requires-clause-mask : goal.subset-alone-requires-clause-mask
subset-alone-requires-clause-mask c =
    let power = power-is c.args.i (length (set_at c.args.arena.now.pairs c.args.k)) c.requires.place c.requires.few in
    subst (λ m. m < 2 ^ length (set_at c.args.arena.now.pairs c.args.k)) (sym power.0) power.1

pub returns-clause-added : goal.returns-clause-added
returns-clause-added c = on_ok_weaker c.add_clauses.result (λ added system weighing starts source x here.
    let power = power-is c.args.i (length (set_at c.args.arena.now.pairs c.args.k)) c.requires.place c.requires.few in
    added-same (IsClauseBy to_positive c.index-lists-alone.result) (AffordsPositive (listed_at c.args.arena.now.pairs c.args.lists.now) x c.args.i)
    c.args.clause.now c.add_clauses.new.made added
    (positive-made system weighing starts c.args.arena.now source c.args.lists.now c.requires.lists c.args.k c.args.i x here c.requires.place
    ((1 * 2 ^ c.args.i) % 4294967296) c.subset-alone.result c.index-lists-alone.result power.0
    (subst (λ m. m < 2 ^ length (set_at c.args.arena.now.pairs c.args.k)) (sym power.0) power.1) (omega (arith, power.0, power.2))
    c.subset-alone.ensures.subset c.subset-alone.ensures.pair c.index-lists-alone.is)) c.add_clauses.ensures.added

pub returns-clause-low : goal.returns-clause-low
returns-clause-low c = on_ok_weaker c.add_clauses.result
    (positive-low c.index-lists-alone.result c.args.clause.now c.add_clauses.new.made
    (row-low c.args.lists.now c.subset-alone.result c.index-lists-alone.result c.requires.room
    (omega (arith, c.subset-alone.ensures.pair, c.requires.lists)) c.index-lists-alone.is)) c.add_clauses.ensures.members
