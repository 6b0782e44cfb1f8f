-- What follows for verdicts that are so.
use Rattle.std.proofs.Common.{◌≡◌, ℕ, zero, suc, List, [], ◌∷◌, sym, subst, refl}
use Rattle.std.specs.Prelude.{Option, None, Some, slice_get}
use Rattle.spectro_spec.specs.System.{System}
use Rattle.spectro_spec.specs.Weighing.{Weighing}
use Rattle.spectro_spec.specs.Notion.{Bound, Notion, Holds, IsWithin}
use Rattle.spectro_game.specs.Reached.{StandsAt}
use Rattle.spectro_theory.specs.LawsOfNotions.{LeastPricesAreReached, SmallerBoundsHoldMore}
use Rattle.spectro_hml.specs.Sheets.{SheetNode, unfolded}
use Rattle.spectro_notions.specs.Tables.{bound_at}
use Rattle.spectro_report.specs.Clauses.{AreLeast, HoldBelow}
use Rattle.spectro_report.specs.Verdicts.{Verdict, holds, fails, AreVerdicts, IsVerdict}
use Rattle.spectro_report.proofs.Finding.{first-member}

module _ (weighing : Weighing) (system : System) (p q : ℕ) (nodes : List SheetNode) where
  -- the verdict at a place is on the notion at that place
  verdict-on : (table : List Notion) (verdicts : List Verdict) (k : ℕ) (verdict : Verdict) → AreVerdicts weighing system p q nodes table verdicts
      → StandsAt verdicts k verdict → (notion : Notion) × StandsAt table k notion × IsVerdict weighing system p q nodes notion.bound verdict
  verdict-on table [] k verdict are here = absurd (cc)
  verdict-on [] (first ∷ verdicts) k verdict are here = absurd are
  verdict-on (notion ∷ table) (first ∷ verdicts) zero verdict are here =
      let same : first ≡ verdict = cc in (notion, refl, subst (IsVerdict weighing system p q nodes notion.bound) same are.0)
  verdict-on (notion ∷ table) (first ∷ verdicts) (suc k) verdict are here = verdict-on table verdicts k verdict are.1 here

  -- and there is one on each notion
  on-verdict : (table : List Notion) (verdicts : List Verdict) (k : ℕ) (notion : Notion) → AreVerdicts weighing system p q nodes table verdicts
      → StandsAt table k notion → (verdict : Verdict) × StandsAt verdicts k verdict × IsVerdict weighing system p q nodes notion.bound verdict
  on-verdict [] verdicts k notion are here = absurd (cc)
  on-verdict (other ∷ table) [] k notion are here = absurd are
  on-verdict (other ∷ table) (verdict ∷ verdicts) zero notion are here =
      let same : other ≡ notion = cc in (verdict, refl, subst (λ (one : Notion). IsVerdict weighing system p q nodes one.bound verdict) same are.0)
  on-verdict (other ∷ table) (verdict ∷ verdicts) (suc k) notion are here = on-verdict table verdicts k notion are.1 here

  -- no formula undercuts the price of a failure
  pub verdicts-least : LeastPricesAreReached → (table : List Notion) (verdicts : List Verdict) → AreVerdicts weighing system p q nodes table verdicts
      → AreLeast weighing system p q verdicts
  verdicts-least reached table verdicts are k e (node, shown, here) formula distinguishes low =
      let (notion, at, failure) = verdict-on table verdicts k (fails e node shown) are here in
      reached weighing system p (q ∷ []) failure.prices failure.least e (first-member failure.prices notion.bound e failure.first) formula distinguishes low

  -- a verdict on a bound that holds says so
  held : (bound : Bound) (verdict : Verdict) → IsVerdict weighing system p q nodes bound verdict → Holds weighing bound system p q → verdict ≡ holds
  held bound holds is so = refl
  held bound (fails e k shown) failure so =
      absurd (so (unfolded nodes k) (subst (λ f. IsWithin f bound) (sym failure.paid) failure.first.within) failure.distinguishes)

  bound-stands : (table : List Notion) (k : ℕ) (bound : Bound) → bound_at table k ≡ Some bound → (notion : Notion) × StandsAt table k notion
      × (notion.bound ≡ bound)
  bound-stands table k bound at = go (slice_get table k) refl
    where
      go : (one : Option Notion) → slice_get table k ≡ one → (notion : Notion) × StandsAt table k notion × (notion.bound ≡ bound)
      go None here = absurd (cc)
      go (Some notion) here = (notion, here, cc)

  -- where a notion is said to hold, each below it is
  pub verdicts-below : SmallerBoundsHoldMore → (table : List Notion) (verdicts : List Verdict) → AreVerdicts weighing system p q nodes table verdicts
      → HoldBelow table verdicts
  verdicts-below more table verdicts are i j below here =
      let (most, at, so) = verdict-on table verdicts j holds are here in
      let (low, there, low-is) = bound-stands table i below.low below.first in
      let (verdict, stands, is) = on-verdict table verdicts i low are there in
      let same : most.bound ≡ below.most = cc in
      let holding : Holds weighing below.low system p q = more weighing system below.low below.most p q below.below
      (subst (λ bound. Holds weighing bound system p q) same so) in
      subst (StandsAt verdicts i) (held low.bound verdict is (subst (λ bound. Holds weighing bound system p q) (sym low-is) holding)) stands
