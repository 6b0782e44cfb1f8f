-- The rows of the pair name the observed pairs and their labels by place, and the weights are those of the labels.
use Rattle.std.proofs.Common.{ℕ, List, length, get_or, ap, ◌∙◌, sym, subst, arith}
use Rattle.std.specs.List.{slice_get}
use Rattle.spectro_spec.specs.System.{System}
use Rattle.spectro_spec.specs.Weighing.{Weighing}
use Rattle.spectro_theory.proofs.Places.{stands-some, stands-below}
use Rattle.spectro_pairs.specs.Explored.{Explored, IsExploredFrom}
use Rattle.spectro_pairs.proofs.ArenaRows.{IsObservedAt, is_observation, observed-at}
use Rattle.spectro_pairs.proofs.arena.Arena.observation.Goals as goal
use Rattle.spectro_pairs.proofs.arena.Arena.observation.Goals.{After-row-2}

-- from whatever the arena was explored
found : (c : After-row-2) (system : System) (weighing : Weighing) (starts : List (ℕ × ℕ)) → IsExploredFrom system weighing starts c.args.self.now
    → IsObservedAt system weighing c.args.self.now c.args.k c.row-2.result.now c.row.result.now c.args.i
found c system weighing starts source =
    let x = stands-some c.args.self.now.pairs c.args.k c.requires.pair in
    observed-at system weighing starts c.args.self.now source c.args.k x.0 x.1 c.row-2.result.now c.row.result.now
    (ap (λ (e : Explored). slice_get e.followers c.args.k) (sym c.self.view_is) ∙ c.row-2.ensures)
    (ap (λ (e : Explored). slice_get e.labels c.args.k) (sym c.self.view_is) ∙ c.row.ensures) c.args.i c.requires.place

known : (c : After-row-2) → IsObservedAt c.self.invariant.system c.self.invariant.weighing c.args.self.now c.args.k c.row-2.result.now c.row.result.now c.args.i
known c =
    let arena = c.self.invariant in
    found c arena.system arena.weighing arena.starts (subst (IsExploredFrom arena.system arena.weighing arena.starts) c.self.view_is arena.source)

pub bounds-row-i-2 : goal.bounds-row-i-2
bounds-row-i-2 c = (known (goal.at.bounds-row-i-2 c).After-row-2).within

pub index-requires : goal.index-requires
index-requires c =
    let weighed = (known (goal.at.index-requires c).After-row-2).weighed in
    omega (
      arith,
      stands-below c.args.self.now.weights (get_or c.row.result.now c.args.i 0) _ weighed,
      ap
          (λ (e : Explored). length e.weights) c.self.view_is,
      c.self.inside.weights.ok.0,
    )

pub returns-clause-observation : goal.returns-clause-observation
returns-clause-observation c system weighing starts source =
    is_observation system weighing c.args.self.now c.args.k c.row-2.result.now c.row.result.now c.args.i c.index.result.now
    (found (goal.at.returns-clause-observation c).After-row-2 system weighing starts source)
    (c.index.ensures ∙ ap (λ (e : Explored). get_or e.weights (get_or c.row.result.now c.args.i 0) c.index.result.now) c.self.view_is)

pub returns-clause-pair : goal.returns-clause-pair
returns-clause-pair c =
    let at = known (goal.at.returns-clause-pair c).After-row-2 in
    stands-below c.args.self.now.pairs (get_or c.row-2.result.now c.args.i 0) at.to at.there
