-- Why there is no report, as why a run stops.
use Rattle.std.proofs.Common.{◌≡◌, ◌∙◌, ℕ, ap, sym, subst}
use Rattle.spectro_spec.specs.System.{System}
use Rattle.spectro_report.specs.Clauses.{IsRefused}
use Rattle.spectro_report.specs.declared.error.ReportError.{ReportError}
use Rattle.spectro_report.specs.declared.error.ReportError.TheVariants as report
use Rattle.spectro_run.specs.Codes.{refusal_of}
use Rattle.spectro_run.specs.Comparisons.{RefusesSize}
use Rattle.spectro_run.specs.Stops.{IsStop, Stops, no_memory, refused}
use Rattle.spectro_run.specs.declared.status.Status.{Status}
use Rattle.spectro_run.specs.declared.status.Status.TheVariants.{TooLarge}

-- the comparison is too large, or memory ran out
pub report-stops : (left right : System) (limit : ℕ) (error : ReportError) (status : Status) → status ≡ refusal_of error → IsRefused left right limit error
    → Stops (RefusesSize left right limit) ⊥ status
report-stops left right limit (report.TooLarge most) status is refusal =
    refused (subst IsStop (sym is) tt) (is ∙ ap (λ limit. TooLarge limit) refusal.0, refusal.1)
report-stops left right limit report.OutOfMemory status is refusal = no_memory is
