use Rattle.std.proofs.Common.{arith, ◌<◌, length}
use Rattle.spectro_game.specs.Rows.{listed_at}
use Rattle.spectro_solve.specs.Added.{CanBeConjoined}
use Rattle.spectro_solve.specs.Clauses.{IsClauseList}
use Rattle.spectro_solve.proofs.Listing.{rows-next}
use Rattle.spectro_solve.proofs.splits.list_clauses.Goals as goal

pub loop-i-preserved : goal.loop-i-preserved
loop-i-preserved c =
    let below : c.loop-i.i < length c.loop-i.clauses = omega (arith, c.loop-i-test.true, c.loop-i.auto.clauses) in (
      (λ system weighing starts source x here. rows-next (IsClauseList (listed_at c.args.arena.now.pairs c.args.lists.now) x) c.loop-i.clauses c.loop-i.i
          c.list_clause.new.clause below (c.loop-i.invariant.0 system weighing starts source x here)
          (c.in_ok-list_clause.ensures.clause system weighing starts source x here)),
      rows-next (λ i es. CanBeConjoined es) c.loop-i.clauses c.loop-i.i c.list_clause.new.clause below c.loop-i.invariant.1 c.in_ok-list_clause.ensures.low,
    )

pub returns-clause-clauses : goal.returns-clause-clauses
returns-clause-clauses c system weighing starts source x here i below =
    c.loop-i.invariant.0 system weighing starts source x here i (omega (arith, below, c.loop-i-test.false))

pub returns-clause-low : goal.returns-clause-low
returns-clause-low c i below = c.loop-i.invariant.1 i (omega (arith, below, c.loop-i-test.false))
