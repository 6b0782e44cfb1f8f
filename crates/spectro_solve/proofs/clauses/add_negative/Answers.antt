use Rattle.std.proofs.Common.{arith, ◌<◌, length}
use Rattle.std.proofs.lemmas.Result.{on_ok_weaker}
use Rattle.spectro_game.specs.Update.{to_negative}
use Rattle.spectro_game.specs.Rows.{listed_at}
use Rattle.spectro_solve.specs.Added.{IsClauseBy}
use Rattle.spectro_solve.specs.Clauses.{AffordsNegative}
use Rattle.spectro_solve.proofs.Adding.{added-nothing, added-same}
use Rattle.spectro_solve.proofs.ClauseLists.{negative-low, negative-made, negative-none, row-low, swap-within}
use Rattle.spectro_solve.proofs.clauses.add_negative.Goals as goal

pub returns-in-Some-clause-added : goal.returns-in-Some-clause-added
returns-in-Some-clause-added c = on_ok_weaker c.add_clauses.result (λ added system weighing starts source x here.
    added-same (IsClauseBy to_negative c.index-lists-turned.result) (AffordsNegative (listed_at c.args.arena.now.pairs c.args.lists.now) x c.args.i)
    c.args.clause.now c.add_clauses.new.made added
    (negative-made system weighing starts c.args.arena.now source c.args.lists.now c.requires.lists c.args.k c.args.i x here c.requires.place
    c.in-Some.turned c.index-lists-turned.result c.in-Some.ensures c.index-lists-turned.is)) c.add_clauses.ensures.added

pub returns-in-Some-clause-low : goal.returns-in-Some-clause-low
returns-in-Some-clause-low c = on_ok_weaker c.add_clauses.result
    (negative-low c.index-lists-turned.result c.args.clause.now c.add_clauses.new.made
    (row-low c.args.lists.now c.in-Some.turned c.index-lists-turned.result c.requires.room
    (let within : c.in-Some.turned < length c.args.arena.now.pairs = swap-within c.args.arena.now.pairs c.args.k c.args.i c.in-Some.turned c.in-Some.ensures in
    omega (arith, within, c.requires.lists)) c.index-lists-turned.is)) c.add_clauses.ensures.members

pub returns-in-None-clause-added : goal.returns-in-None-clause-added
returns-in-None-clause-added c system weighing starts source x here =
    added-nothing (AffordsNegative (listed_at c.args.arena.now.pairs c.args.lists.now) x c.args.i) c.args.clause.now
    (negative-none system weighing starts c.args.arena.now source c.args.lists.now c.requires.lists c.args.k c.args.i x here c.requires.place c.in-None.ensures)
