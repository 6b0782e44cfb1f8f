-- The comparison of both initial states in the joined system is the report on the systems.
use Rattle.std.proofs.lemmas.Result.{err_from_is_err_and}
use Rattle.std.proofs.lemmas.Slice.Zip.{AllZip-long}
use Rattle.spectro_spec.specs.System.{join}
use Rattle.spectro_report.specs.Comparisons.{IsComparison}
use Rattle.spectro_report.specs.Compared.{initial_of_right}
use Rattle.spectro_report.specs.Starts.{IsTooLarge}
use Rattle.spectro_report.proofs.Following.{verdicts-below, verdicts-least}
use Rattle.spectro_report.proofs.Refusing.{refused-start}
use Rattle.spectro_report.proofs.Reporting.{is_report}
use Rattle.spectro_report.proofs.compare.report.Goals as goal

pub returns-in_err-found-clause-limit : goal.returns-in_err-found-clause-limit
returns-in_err-found-clause-limit c =
    let p = err_from_is_err_and c.from_residual-in_err-found.result c.from_residual-in_err-found.ensures.1 in
    let large : IsTooLarge (join c.args.left.now c.args.right.now) (c.args.left.now.initial, initial_of_right c.args.left.now c.args.right.now)
    c.args.limit c.in_err-found.field-0.0 =
    rw (c.in_ok-both.ensures, c.initial.ensures.value, c.states.ensures.value, c.initial-2.ensures.value) at c.in_err-found.ensures.limit in
    rw (p.1, p.2) (refused-start c.args.left.now c.args.right.now c.args.limit c.in_err-found.field-0.0 large)

pub returns-clause-report : goal.returns-clause-report
returns-clause-report c =
    let found : IsComparison c.args.weights.now (join c.args.left.now c.args.right.now) c.args.left.now.initial
    (initial_of_right c.args.left.now c.args.right.now) c.args.notions.now c.in_ok-found.found =
    rw (c.in_ok-both.ensures, c.initial.ensures.value, c.states.ensures.value, c.initial-2.ensures.value) at c.in_ok-found.ensures.found in
    is_report c.args.weights.now c.args.left.now c.args.right.now c.args.notions.now found.pairs found.reached found.rows found.listed found.solved _
    found.said.forth found.said.back found.said.built c.built_nodes_are_exact.ensures c.extent_of.ensures c.extent_of-2.ensures found.count found.size
    found.energies

pub returns-clause-forth_each : goal.returns-clause-forth_each
returns-clause-forth_each c = AllZip-long _ _ _ (returns-clause-report c).forth

pub returns-clause-back_each : goal.returns-clause-back_each
returns-clause-back_each c = AllZip-long _ _ _ (returns-clause-report c).back

pub returns-clause-forth_least : goal.returns-clause-forth_least
returns-clause-forth_least c = verdicts-least _ _ _ _ _ c.least_prices_are_reached.ensures _ _ (returns-clause-report c).forth

pub returns-clause-back_least : goal.returns-clause-back_least
returns-clause-back_least c = verdicts-least _ _ _ _ _ c.least_prices_are_reached.ensures _ _ (returns-clause-report c).back

pub returns-clause-forth_below : goal.returns-clause-forth_below
returns-clause-forth_below c = verdicts-below _ _ _ _ _ c.smaller_bounds_hold_more.ensures _ _ (returns-clause-report c).forth

pub returns-clause-back_below : goal.returns-clause-back_below
returns-clause-back_below c = verdicts-below _ _ _ _ _ c.smaller_bounds_hold_more.ensures _ _ (returns-clause-report c).back
