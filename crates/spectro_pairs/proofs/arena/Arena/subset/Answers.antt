-- The subsets stand behind the observed pairs, by rising mask.
use Rattle.std.proofs.Common.{◌-◌, ◌+◌, ◌<◌, length, get_or, ap, ◌∙◌, sym, subst, arith}
use Rattle.std.specs.List.{slice_get}
use Rattle.spectro_theory.proofs.Places.{stands-below}
use Rattle.spectro_pairs.specs.Arenas.{IsSubset}
use Rattle.spectro_pairs.specs.Explored.{Explored, IsExploredFrom}
use Rattle.spectro_pairs.proofs.ArenaRows.{subset-at}
use Rattle.spectro_pairs.proofs.arena.Arena.subset.Goals as goal
use Rattle.spectro_pairs.proofs.arena.Arena.subset.Goals.{After-row}

found : (c : After-row) → let place = c.observation_count-from.result + c.args.mask - 1 in
    (place < length c.row.result.now) × IsSubset c.args.self.now.pairs c.args.k c.args.mask (get_or c.row.result.now place 0)
found c =
    let known = c.self.invariant in
    let source = subst (IsExploredFrom known.system known.weighing known.starts) c.self.view_is known.source in
    let count = c.observation_count-from.ensures.count known.system known.weighing known.starts source in
    let some = c.requires.some in
    subset-at known.system known.weighing known.starts c.args.self.now source c.args.k count.0 count.1 c.row.result.now
    (ap (λ (e : Explored). slice_get e.followers c.args.k) (sym c.self.view_is)
    ∙ c.row.ensures) c.args.mask (c.observation_count-from.result + c.args.mask - 1) some c.requires.mask
    (omega (arith, count.2))

pub bounds-row-from : goal.bounds-row-from
bounds-row-from c = (found (goal.at.bounds-row-from c).After-row).0

pub returns-clause-subset : goal.returns-clause-subset
returns-clause-subset c = (found (goal.at.returns-clause-subset c).After-row).1

pub returns-clause-pair : goal.returns-clause-pair
returns-clause-pair c =
    let at = (found (goal.at.returns-clause-pair c).After-row).1 in
    stands-below c.args.self.now.pairs _ at.to at.there
