-- Verdicts that tell what was found are so.
use Rattle.std.proofs.Common.{◌≡◌, ◌∙◌, ◌<◌, ℕ, zero, suc, List, [], ◌∷◌, ◌++◌, length, ap, sym, subst, refl, arith}
use Rattle.std.specs.Prelude.{Option, Some, None}
use Rattle.std.specs.List.{AllZip}
use Rattle.spectro_spec.specs.System.{System}
use Rattle.spectro_spec.specs.Weighing.{Weighing}
use Rattle.spectro_spec.specs.Price.{Price}
use Rattle.spectro_spec.specs.Notion.{Notion}
use Rattle.spectro_spec.specs.LeastPrices.{AreLeastPrices}
use Rattle.spectro_game.specs.Reached.{StandsAt}
use Rattle.spectro_theory.specs.LawsOfSteps.{IsOfPrice}
use Rattle.spectro_theory.proofs.Readings.{Holds-iff}
use Rattle.spectro_hml.specs.Sheets.{SheetNode, unfolded}
use Rattle.spectro_report.specs.Firsts.{AreFirsts, IsPutLast, IsTold, AreTold, prices_found}
use Rattle.spectro_report.specs.Reports.{prices_told, nodes_told}
use Rattle.spectro_report.specs.Verdicts.{Verdict, holds, fails, AreVerdicts}
use Rattle.spectro_report.proofs.HowShown.{some_shown}
use Rattle.spectro_report.proofs.Searching.{AllZip-more}

-- notions are said to fail at the prices that were found
pub prices_told-found : (nodes : List SheetNode) (firsts : List (Option Price)) (verdicts : List Verdict) → AllZip (IsTold nodes) firsts verdicts
    → prices_told verdicts ≡ prices_found firsts
prices_told-found nodes [] [] told = refl
prices_told-found nodes [] (verdict ∷ verdicts) told = absurd told
prices_told-found nodes (first ∷ firsts) [] told = absurd told
prices_told-found nodes (None ∷ firsts) (holds ∷ verdicts) told = prices_told-found nodes firsts verdicts told.1
prices_told-found nodes (None ∷ firsts) (fails e k shown ∷ verdicts) told = absurd told.0
prices_told-found nodes (Some f ∷ firsts) (holds ∷ verdicts) told = absurd told.0
prices_told-found nodes (Some f ∷ firsts) (fails e k shown ∷ verdicts) told =
    ap (λ g. g ∷ prices_told verdicts) told.0.0 ∙ ap (λ es. f ∷ es) (prices_told-found nodes firsts verdicts told.1)

-- with one more
nodes_told-more : (verdicts : List Verdict) (verdict : Verdict) → nodes_told (verdicts ++ verdict ∷ []) ≡ nodes_told verdicts ++ nodes_told (verdict ∷ [])
nodes_told-more [] verdict = refl
nodes_told-more (holds ∷ verdicts) verdict = nodes_told-more verdicts verdict
nodes_told-more (fails e k shown ∷ verdicts) verdict = ap (λ ks. k ∷ ks) (nodes_told-more verdicts verdict)

pub told-more : (nodes : List SheetNode) (firsts : List (Option Price)) (first : Option Price) (numbers more : List ℕ) (old new : List Verdict)
    → AreTold nodes firsts numbers old → IsPutLast nodes first more old new → AreTold nodes (firsts ++ first ∷ []) (numbers ++ more) new
told-more nodes firsts first numbers more old new told last = record {
  each = subst (AllZip (IsTold nodes) (firsts ++ first ∷ [])) (sym last.last)
      (AllZip-more (IsTold nodes) firsts old first last.verdict told.each last.told);
  named = ap nodes_told last.last ∙ nodes_told-more old last.verdict ∙ (λ i. told.named i ++ last.named i);
}

-- the formula of each node that is named distinguishes at the price for which it is
abbrev pub AreExact : Weighing → System → ℕ → ℕ → List SheetNode → List Price → List ℕ → Type 0
AreExact weighing system p q nodes es numbers =
    (i k : ℕ) (e : Price) → StandsAt es i e → StandsAt numbers i k → IsOfPrice weighing system p (q ∷ []) e (unfolded nodes k)

module _ (weighing : Weighing) (system : System) (p q : ℕ) (nodes : List SheetNode) (es : List Price)
    (least : AreLeastPrices weighing system p (q ∷ []) es) where
  pub told-verdicts : (table : List Notion) (firsts : List (Option Price)) (verdicts : List Verdict) → AreFirsts es table firsts
      → AllZip (IsTold nodes) firsts verdicts → AreExact weighing system p q nodes (prices_told verdicts) (nodes_told verdicts)
      → AreVerdicts weighing system p q nodes table verdicts
  told-verdicts [] [] [] found told exact = tt
  told-verdicts [] [] (verdict ∷ verdicts) found told exact = absurd told
  told-verdicts [] (first ∷ firsts) verdicts found told exact = absurd found
  told-verdicts (notion ∷ table) [] verdicts found told exact = absurd found
  told-verdicts (notion ∷ table) (first ∷ firsts) [] found told exact = absurd told
  told-verdicts (notion ∷ table) (None ∷ firsts) (holds ∷ verdicts) found told exact =
      ((Holds-iff weighing system p q es notion.bound least).1 found.0, told-verdicts table firsts verdicts found.1 told.1 exact)
  told-verdicts (notion ∷ table) (None ∷ firsts) (fails e k shown ∷ verdicts) found told exact = absurd told.0
  told-verdicts (notion ∷ table) (Some f ∷ firsts) (holds ∷ verdicts) found told exact = absurd told.0
  told-verdicts (notion ∷ table) (Some f ∷ firsts) (fails e k shown ∷ verdicts) found told exact =
      let at = exact zero k e refl refl in (
        record {
          prices = es;
          least = least;
          first = rw told.0.0 found.0;
          named = told.0.1;
          distinguishes = at.distinguishes;
          paid = at.paid;
          shown = told.0.2;
        },
        told-verdicts table firsts verdicts found.1 told.1 (λ i l g here also. exact (suc i) l g here also),
      )

-- there are verdicts that tell what was found, by as many nodes of the sheet
pub some_told : (nodes : List SheetNode) (firsts : List (Option Price)) (numbers : List ℕ) → length numbers ≡ length (prices_found firsts)
    → ((i k : ℕ) → StandsAt numbers i k → k < length nodes) → (verdicts : List Verdict) × AreTold nodes firsts numbers verdicts
some_told nodes [] [] long below = ([], record { each = tt; named = refl })
some_told nodes [] (k ∷ numbers) long below = absurd (omega (arith, long))
some_told nodes (None ∷ firsts) numbers long below =
    let others = some_told nodes firsts numbers long below in
    (holds ∷ others.0, record { each = (tt, others.1.each); named = others.1.named })
some_told nodes (Some e ∷ firsts) [] long below = absurd (omega (arith, long))
some_told nodes (Some e ∷ firsts) (k ∷ numbers) long below =
    let shown = some_shown (unfolded nodes k) in
    let others = some_told nodes firsts numbers (omega (arith, long)) (λ i l here. below (suc i) l here) in (
      fails e k shown.0 ∷ others.0,
      record { each = ((refl, below zero k refl, shown.1), others.1.each); named = ap (λ ks. k ∷ ks) others.1.named },
    )
