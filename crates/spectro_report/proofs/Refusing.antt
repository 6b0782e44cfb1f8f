-- What is too large where two states are compared, is so where the systems are.
use Rattle.std.proofs.Common.{ℕ, sym, subst}
use Rattle.spectro_spec.specs.System.{System, join}
use Rattle.spectro_game.specs.Pairs.{AreReachedPairs}
use Rattle.spectro_report.specs.Clauses.{IsRefused}
use Rattle.spectro_report.specs.Compared.{initial_of_right}
use Rattle.spectro_report.specs.Starts.{IsTooLarge}
use Rattle.spectro_report.specs.declared.error.ReportError.{ReportError}
use Rattle.spectro_report.specs.declared.error.ReportError.TheVariants.{TooLarge, OutOfMemory}
use Rattle.spectro_report.proofs.Comparing.{one_start}
use Rattle.spectro_report.proofs.Existing.{some_compared}

pub refused-start : (left right : System) (limit : ℕ) (error : ReportError)
    → IsTooLarge (join left right) (left.initial, initial_of_right left right) limit error → IsRefused left right limit error
refused-start left right limit (TooLarge most) large =
    let start : ℕ × ℕ = (left.initial, initial_of_right left right) in
    let some = some_compared left right in
    (large.0, (some.0, some.1, large.1 some.0 (subst (λ starts. AreReachedPairs (join left right) starts some.0) (sym (one_start start)) some.1)))
refused-start left right limit OutOfMemory large = tt
