-- What is said of a notion from a state p to a state q.
use Rattle.std.specs.Prelude.{ℕ, ◌≡◌, ◌<◌, ◌≤◌, List, [], ◌∷◌, length}
use Rattle.std.specs.List.{AllZip}
use Rattle.spectro_spec.specs.System.{System}
use Rattle.spectro_spec.specs.Formula.{Formula}
use Rattle.spectro_spec.specs.Weighing.{Weighing}
use Rattle.spectro_spec.specs.Price.{Price}
use Rattle.spectro_spec.specs.Pricing.{price}
use Rattle.spectro_spec.specs.Notion.{Bound, Notion, Distinguishes, Holds}
use Rattle.spectro_spec.specs.LeastPrices.{AreLeastPrices}
use Rattle.spectro_game.specs.Reached.{StandsAt}
use Rattle.spectro_theory.specs.LawsOfNotions.{IsFirstWithin}
use Rattle.spectro_energy.specs.Energy.{price_of}
use Rattle.spectro_hml.specs.Sheets.{SheetNode, unfolded}
use Rattle.spectro_hmltext.specs.Printed.{formula_text}
use Rattle.spectro_report.specs.declared.verdict.Shown.{Shown}
use Rattle.spectro_report.specs.declared.verdict.Shown.TheVariants.{Inline, ByNode}
use Rattle.spectro_report.specs.declared.verdict.TheConstants.{MAX_INLINE_BYTES}
use Rattle.spectro_report.specs.declared.verdict.Verdict as kept
use Rattle.spectro_report.specs.declared.verdict.Verdict.TheVariants as kept_as

-- the notion holds, or it fails: at a price, with the number of a node whose formula shows it, and how that is shown
pub data Verdict : Type 0 where
  holds : Verdict
  fails : Price → ℕ → Shown → Verdict

-- the verdict that is kept so
abbrev pub verdict_of : kept.Verdict → Verdict
verdict_of kept_as.Holds = holds
verdict_of (kept_as.Fails price node shown) = fails (price_of price.parts) node shown

-- the formula is shown by its text where that is short, and else by its node
abbrev pub IsShownAs : Formula → Shown → Type 0
IsShownAs formula (Inline text) = (text ≡ formula_text formula) × (length (formula_text formula) ≤ MAX_INLINE_BYTES)
IsShownAs formula ByNode = MAX_INLINE_BYTES < length (formula_text formula)

-- the notion of the bound fails: e is the first of the least prices within the bound,
-- and the formula of node k, which is shown so, distinguishes p from q at just that price
pub record IsFailure (weighing : Weighing) (system : System) (p q : ℕ) (nodes : List SheetNode) (bound : Bound) (e : Price) (k : ℕ) (how : Shown) : Type 0 where
  pub prices : List Price
  pub least : AreLeastPrices weighing system p (q ∷ []) prices
  pub first : IsFirstWithin bound prices e
  pub named : k < length nodes
  pub distinguishes : Distinguishes system p (q ∷ []) (unfolded nodes k)
  pub paid : price weighing (unfolded nodes k) ≡ e
  pub shown : IsShownAs (unfolded nodes k) how

-- what is said of the notion of the bound is so: no formula within the bound distinguishes p from q, or the one that is shown does
abbrev pub IsVerdict : Weighing → System → ℕ → ℕ → List SheetNode → Bound → Verdict → Type 0
IsVerdict weighing system p q nodes bound holds = Holds weighing bound system p q
IsVerdict weighing system p q nodes bound (fails e k how) = IsFailure weighing system p q nodes bound e k how

-- there is a verdict for each notion of the table, in its order, and each is so
abbrev pub AreVerdicts : Weighing → System → ℕ → ℕ → List SheetNode → List Notion → List Verdict → Type 0
AreVerdicts weighing system p q nodes table verdicts =
    AllZip (λ (notion : Notion) verdict. IsVerdict weighing system p q nodes notion.bound verdict) table verdicts

-- the notion of this number is said to hold
abbrev pub SaysHolds : List Verdict → ℕ → Type 0
SaysHolds verdicts k = StandsAt verdicts k holds

-- the notion of this number is said to fail at the price
abbrev pub SaysFails : List Verdict → ℕ → Price → Type 0
SaysFails verdicts k e = (node : ℕ) × (shown : Shown) × StandsAt verdicts k (fails e node shown)
