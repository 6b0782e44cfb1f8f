-- The row of the pair has the pairs that it follows, in rising order.
use Rattle.std.proofs.Common.{◌≡◌, length, ap, ◌∙◌, sym, subst, arith}
use Rattle.std.specs.List.Sorted.{IsStrictlyIncreasing}
use Rattle.std.proofs.lemmas.List.FromFn.{length-map-range_with_len}
use Rattle.spectro_theory.proofs.Places.{stands-some}
use Rattle.spectro_pairs.specs.Explored.{Explored, IsExploredFrom}
use Rattle.spectro_rows.specs.Turned.{rows_with}
use Rattle.spectro_pairs.proofs.PredecessorRows.{predecessor-row, predecessors-rise, as_many, are_predecessors}
use Rattle.spectro_pairs.proofs.arena.Arena.preds.Goals as goal
use Rattle.spectro_pairs.proofs.arena.Arena.preds.Goals.{After-self}

-- there are as many rows as pairs
many : (c : After-self) → length c.self.inside.followers.rows ≡ length c.args.self.now.pairs
many c =
    let known = c.self.invariant in
    ap (λ (e : Explored). length e.followers) c.self.view_is
    ∙ as_many known.system known.weighing known.starts c.args.self.now
    (subst (IsExploredFrom known.system known.weighing known.starts) c.self.view_is known.source)

pub row-requires : goal.row-requires
row-requires c =
    omega (
      arith,
      ap length c.self.invariant.preds,
      length-map-range_with_len (rows_with c.self.inside.followers.rows) 0
          (length c.self.inside.followers.rows),
      many (goal.at.row-requires c).After-self,
    )

-- the row has the predecessors of the pair
row-is : (c : goal.After-row) → c.row.result.now ≡ rows_with c.self.inside.followers.rows c.args.k
row-is c =
    predecessor-row c.self.inside.followers.rows c.self.inside.preds.rows c.args.k c.row.result.now c.self.invariant.preds c.row.ensures
    (let below = c.requires in omega (arith, many (goal.at.returns-clause-rises c).After-self))

pub returns-clause-value : goal.returns-clause-value
returns-clause-value c system weighing starts source =
    let x = stands-some c.args.self.now.pairs c.args.k c.requires in
    are_predecessors system weighing starts c.args.self.now source c.args.k x.0 x.1 c.row.result.now (row-is c
    ∙ ap (λ (e : Explored). rows_with e.followers c.args.k) c.self.view_is)

pub returns-clause-rises : goal.returns-clause-rises
returns-clause-rises c = subst IsStrictlyIncreasing (sym (row-is c))
    (predecessors-rise c.self.inside.followers.rows (length c.self.inside.followers.rows) c.args.k)
