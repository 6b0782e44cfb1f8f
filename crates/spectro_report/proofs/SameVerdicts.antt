-- Verdicts on the same notions, from the same state to the same state, are the same.
use Rattle.std.proofs.Common.{◌≡◌, ◌∙◌, ℕ, List, [], ◌∷◌, ap, sym, subst, refl}
use Rattle.spectro_spec.specs.System.{System}
use Rattle.spectro_spec.specs.Weighing.{Weighing}
use Rattle.spectro_spec.specs.Price.{Price}
use Rattle.spectro_spec.specs.Notion.{Bound, Notion, IsWithin, Holds}
use Rattle.spectro_theory.specs.LawsOfNotions.{IsFirstWithin}
use Rattle.spectro_theory.proofs.LeastLists.{one_least}
use Rattle.spectro_hml.specs.Sheets.{SheetNode, unfolded}
use Rattle.spectro_report.specs.Reports.{prices_told, nodes_told}
use Rattle.spectro_report.specs.Verdicts.{Verdict, holds, fails, IsFailure, AreVerdicts}
use Rattle.spectro_report.specs.declared.verdict.Shown.{Shown}
use Rattle.spectro_report.proofs.Finding.{one_first}
use Rattle.spectro_report.proofs.HowShown.{one_shown}

module _ (weighing : Weighing) (system : System) (p q : ℕ) where
  -- what fails does not hold
  pub fails-not_holds : (nodes : List SheetNode) (bound : Bound) (e : Price) (k : ℕ) (shown : Shown)
      → IsFailure weighing system p q nodes bound e k shown → ¬ Holds weighing bound system p q
  fails-not_holds nodes bound e k shown failure held = held (unfolded nodes k)
      (subst (λ f. IsWithin f bound) (sym failure.paid) failure.first.within) failure.distinguishes

  -- it fails at one price
  one_price : (nodes others : List SheetNode) (bound : Bound) (e f : Price) (k l : ℕ) (shown also : Shown)
      → IsFailure weighing system p q nodes bound e k shown → IsFailure weighing system p q others bound f l also → e ≡ f
  one_price nodes others bound e f k l shown also failure other =
      one_first failure.prices bound e f failure.first
      (subst (λ es. IsFirstWithin bound es f) (one_least weighing system p (q ∷ []) other.prices failure.prices other.least failure.least) other.first)

  pub same_prices : (nodes others : List SheetNode) (table : List Notion) (verdicts more : List Verdict)
      → AreVerdicts weighing system p q nodes table verdicts → AreVerdicts weighing system p q others table more → prices_told verdicts ≡ prices_told more
  same_prices nodes others [] [] [] are also = refl
  same_prices nodes others [] (verdict ∷ verdicts) more are also = absurd are
  same_prices nodes others [] [] (verdict ∷ more) are also = absurd also
  same_prices nodes others (notion ∷ table) [] more are also = absurd are
  same_prices nodes others (notion ∷ table) (verdict ∷ verdicts) [] are also = absurd also
  same_prices nodes others (notion ∷ table) (holds ∷ verdicts) (holds ∷ more) are also = same_prices nodes others table verdicts more are.1 also.1
  same_prices nodes others (notion ∷ table) (holds ∷ verdicts) (fails f l shown ∷ more) are also =
      absurd (fails-not_holds others notion.bound f l shown also.0 are.0)
  same_prices nodes others (notion ∷ table) (fails e k shown ∷ verdicts) (holds ∷ more) are also =
      absurd (fails-not_holds nodes notion.bound e k shown are.0 also.0)
  same_prices nodes others (notion ∷ table) (fails e k shown ∷ verdicts) (fails f l other ∷ more) are also =
      ap (λ g. g ∷ prices_told verdicts) (one_price nodes others notion.bound e f k l shown other are.0 also.0)
      ∙ ap (λ es. f ∷ es) (same_prices nodes others table verdicts more are.1 also.1)

  -- by the same nodes of the same sheet, they are the same
  pub same_verdicts : (nodes : List SheetNode) (table : List Notion) (verdicts more : List Verdict)
      → AreVerdicts weighing system p q nodes table verdicts → AreVerdicts weighing system p q nodes table more
      → nodes_told verdicts ≡ nodes_told more → verdicts ≡ more
  same_verdicts nodes [] [] [] are also same = refl
  same_verdicts nodes [] (verdict ∷ verdicts) more are also same = absurd are
  same_verdicts nodes [] [] (verdict ∷ more) are also same = absurd also
  same_verdicts nodes (notion ∷ table) [] more are also same = absurd are
  same_verdicts nodes (notion ∷ table) (verdict ∷ verdicts) [] are also same = absurd also
  same_verdicts nodes (notion ∷ table) (holds ∷ verdicts) (holds ∷ more) are also same =
      ap (λ vs. holds ∷ vs) (same_verdicts nodes table verdicts more are.1 also.1 same)
  same_verdicts nodes (notion ∷ table) (holds ∷ verdicts) (fails f l shown ∷ more) are also same =
      absurd (fails-not_holds nodes notion.bound f l shown also.0 are.0)
  same_verdicts nodes (notion ∷ table) (fails e k shown ∷ verdicts) (holds ∷ more) are also same =
      absurd (fails-not_holds nodes notion.bound e k shown are.0 also.0)
  same_verdicts nodes (notion ∷ table) (fails e k shown ∷ verdicts) (fails f l other ∷ more) are also same =
      let price-is : e ≡ f = one_price nodes nodes notion.bound e f k l shown other are.0 also.0 in
      let node-is : k ≡ l = cc in
      let rest : nodes_told verdicts ≡ nodes_told more = cc in
      let shown-is : shown ≡ other = one_shown (unfolded nodes k) shown other are.0.shown (rw node-is also.0.shown) in
      (λ i. fails (price-is i) (node-is i) (shown-is i) ∷ verdicts)
      ∙ ap (λ vs. fails f l other ∷ vs) (same_verdicts nodes table verdicts more are.1 also.1 rest)
