-- A notion that is below another holds wherever that one does.
use Rattle.std.proofs.Common.{◌≡◌, ◌∙◌, ℕ, List, sym, subst}
use Rattle.std.proofs.lemmas.Option.{same_Some}
use Rattle.spectro_spec.specs.Notion.{Holds, Notion}
use Rattle.spectro_spec.specs.System.{System}
use Rattle.spectro_spec.specs.Weighing.{Weighing}
use Rattle.spectro_theory.proofs.Readings.{Holds-smaller}
use Rattle.spectro_notions.specs.Laws.{NotionHolds}
use Rattle.spectro_notions.specs.Tables.{IsBelowIn}

pub NotionHolds-below : (table : List Notion) (i j : ℕ) (weighing : Weighing) (system : System) (p q : ℕ) → IsBelowIn table i j
    → NotionHolds table j weighing system p q → NotionHolds table i weighing system p q
NotionHolds-below table i j weighing system p q below holds =
    let same : holds.0 ≡ below.most = same_Some holds.0 below.most (sym holds.1 ∙ below.second) in (
      below.low,
      below.first,
      Holds-smaller weighing system below.low below.most p q below.below (subst (λ bound. Holds weighing bound system p q) same holds.2),
    )
