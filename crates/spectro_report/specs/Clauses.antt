-- What is said of a report beside what it is.
use Rattle.std.specs.Prelude.{ℕ, ◌/◌, ◌≡◌, ◌<◌, ◌≤◌, List, [], ◌∷◌, length}
use Rattle.spectro_spec.specs.System.{System}
use Rattle.spectro_spec.specs.Formula.{Formula}
use Rattle.spectro_spec.specs.Weighing.{Weighing}
use Rattle.spectro_spec.specs.Price.{Price, IsAtMost}
use Rattle.spectro_spec.specs.Pricing.{price}
use Rattle.spectro_spec.specs.Notion.{Notion, Distinguishes}
use Rattle.spectro_game.specs.Pairs as game
use Rattle.spectro_game.specs.Pairs.{Pair}
use Rattle.spectro_lts.specs.Labels.{labels_of}
use Rattle.spectro_lts.specs.declared.draft.TheConstants.{MAX_LABELS, MAX_STATES, MAX_STEPS}
use Rattle.spectro_notions.specs.Tables.{IsBelowIn}
use Rattle.spectro_report.specs.Compared.{AreCompared}
use Rattle.spectro_report.specs.Verdicts.{Verdict, SaysHolds, SaysFails}
use Rattle.spectro_report.specs.declared.error.ReportError.{ReportError}
use Rattle.spectro_report.specs.declared.error.ReportError.TheVariants.{TooLarge, OutOfMemory}

-- the system has at most half as many states, steps and labels as one may have, so that two of them fit side by side
pub record IsSide (system : System) : Type 0 where
  pub states : system.states ≤ MAX_STATES / 2
  pub steps : length system.steps ≤ MAX_STEPS / 2
  pub labels : length (labels_of system.steps) ≤ MAX_LABELS / 2

-- the pairs of the comparison have more positions than the limit; that memory ran out says nothing
abbrev pub IsRefused : System → System → ℕ → ReportError → Type 0
IsRefused left right limit (TooLarge most) = (most ≡ limit) × ((pairs : List Pair) × AreCompared left right pairs × (limit < game.size pairs))
IsRefused left right limit OutOfMemory = Unit {0}

-- no formula that distinguishes p from q undercuts a price at which a notion is said to fail
abbrev pub AreLeast : Weighing → System → ℕ → ℕ → List Verdict → Type 0
AreLeast weighing system p q verdicts =
    (k : ℕ) (e : Price) → SaysFails verdicts k e
    → (formula : Formula) → Distinguishes system p (q ∷ []) formula → IsAtMost (price weighing formula) e → price weighing formula ≡ e

-- where a notion is said to hold, so is each below it
abbrev pub HoldBelow : List Notion → List Verdict → Type 0
HoldBelow table verdicts = (i j : ℕ) → IsBelowIn table i j → SaysHolds verdicts j → SaysHolds verdicts i
