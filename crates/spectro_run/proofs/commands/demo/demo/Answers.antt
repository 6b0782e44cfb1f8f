-- No file is read, so the one stage is the report.
use Rattle.std.proofs.Common.{[], refl}
use Rattle.std.specs.Prelude.{None}
use Rattle.std.proofs.lemmas.Result.{err_from_is_err_and}
use Rattle.spectro_demo.specs.Systems.{demo_left, demo_right}
use Rattle.spectro_words.specs.declared.limit.TheConstants.{DEFAULT_LIMIT}
use Rattle.spectro_run.specs.Stages.{given}
use Rattle.spectro_run.specs.Stops.{no_memory}
use Rattle.spectro_run.proofs.Reported.{report-stops}
use Rattle.spectro_run.proofs.Stopping.{stops-first}
use Rattle.spectro_run.proofs.commands.demo.demo.Goals as goal

pub returns-in_err-left : goal.returns-in_err-left
returns-in_err-left c =
    let p = err_from_is_err_and c.from_residual.result c.from_residual.ensures.1 in
    rw p.1 (λ told before now. record { held = λ which. None; are = λ which. refl; ends = no_memory p.2 })

pub returns-in_err-right : goal.returns-in_err-right
returns-in_err-right c =
    let p = err_from_is_err_and c.from_residual-in_err-right.result c.from_residual-in_err-right.ensures.1 in
    rw p.1 (λ told before now. record { held = λ which. None; are = λ which. refl; ends = no_memory p.2 })

pub returns-in_err-report : goal.returns-in_err-report
returns-in_err-report c =
    let p = err_from_is_err_and c.from_residual-in_err-report.result c.from_residual-in_err-report.ensures.1 in
    let stops = report-stops (demo_left c.args.number) (demo_right c.args.number) DEFAULT_LIMIT _ _ p.2
    (rw (c.in_ok-left.ensures.system, c.in_ok-right.ensures.system) at c.in_err-report.ensures.limit) in
    rw p.1 (λ told before now. record { held = λ which. None; are = λ which. refl; ends = stops-first _ _ _ (λ failed. absurd failed) stops })

pub returns : goal.returns
returns c = λ told before now. record {
  held = λ which. None;
  are = λ which. refl;
  ends = given c.in_ok-report.report (rw (c.in_ok-left.ensures.system, c.in_ok-right.ensures.system) at c.in_ok-report.ensures.report) (refl, refl);
}
