-- A report has a verdict for each notion, in both directions.
use Rattle.std.proofs.lemmas.Result.{err_from_is_err_and}
use Rattle.std.proofs.lemmas.Slice.Zip.{AllZip-long}
use Rattle.spectro_run.proofs.Reported.{report-stops}
use Rattle.spectro_run.proofs.commands.compare.report_on.Goals as goal

pub returns-in_err-report-clause-stopped : goal.returns-in_err-report-clause-stopped
returns-in_err-report-clause-stopped c =
    let p = err_from_is_err_and c.from_residual.result c.from_residual.ensures.1 in
    rw p.1 (report-stops c.args.left.now c.args.right.now c.args.limit _ _ p.2 c.in_err-report.ensures.limit)

pub invariant_of-result : goal.invariant_of-result
invariant_of-result c =
    let is = c.in_ok-report.ensures.report in
    (AllZip-long _ c.args.notions c.in_ok-report.report.forth is.forth, AllZip-long _ c.args.notions c.in_ok-report.report.back is.back)
