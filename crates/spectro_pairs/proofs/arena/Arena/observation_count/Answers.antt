-- The row of labels has one for each observed pair, and these are no more than the steps.
use Rattle.std.proofs.Common.{◌<◌, [], length, ap, ◌∙◌, sym, subst, arith, rules}
use Rattle.std.specs.List.{slice_get}
use Rattle.std.proofs.lemmas.Option.{get_or_from_slice_get}
use Rattle.spectro_game.specs.Reached.{StandsAt}
use Rattle.spectro_theory.proofs.Places.{stands-some}
use Rattle.spectro_pairs.specs.Explored.{Explored, IsExploredFrom}
use Rattle.spectro_pairs.proofs.ArenaRows.{label-count}
use Rattle.spectro_pairs.proofs.ObservedSteps.{observed-steps}
use Rattle.spectro_pairs.proofs.arena.Arena.observation_count.Goals as goal

pub overflow_cast-result : goal.overflow_cast-result
overflow_cast-result c =
    let now = c.args.self.now in
    let known = c.self.invariant in
    let k = c.args.k in
    let source : IsExploredFrom known.system known.weighing known.starts now = subst
    (IsExploredFrom known.system known.weighing known.starts) c.self.view_is known.source in
    let labels : StandsAt now.labels k c.row.result.now = ap (λ (e : Explored). slice_get e.labels k) (sym c.self.view_is) ∙ c.row.ensures in
    let x = stands-some now.pairs k c.requires in
    let fits : length c.row.result.now < 4294967296 = omega (
      arith,
      label-count known.system known.weighing known.starts now source k x.0 x.1 c.row.result.now labels,
      observed-steps known.system x.0,
      known.bound,
    ) in
    search (rules, fits)

pub returns-clause-value : goal.returns-clause-value
returns-clause-value c =
    let labels : StandsAt c.args.self.now.labels c.args.k c.row.result.now = ap (λ (e : Explored). slice_get e.labels c.args.k) (sym c.self.view_is)
    ∙ c.row.ensures in
    ap length (sym (get_or_from_slice_get c.args.self.now.labels c.args.k c.row.result.now [] labels))

pub returns-clause-count : goal.returns-clause-count
returns-clause-count c system weighing starts source =
    let now = c.args.self.now in
    let labels : StandsAt now.labels c.args.k c.row.result.now = ap (λ (e : Explored). slice_get e.labels c.args.k) (sym c.self.view_is) ∙ c.row.ensures in
    let x = stands-some now.pairs c.args.k c.requires in
    (x.0, x.1, label-count system weighing starts now source c.args.k x.0 x.1 c.row.result.now labels)
