-- What is found for the notions of a table in a list of least prices, and the verdicts that tell it.
use Rattle.std.specs.Prelude.{ℕ, ◌≡◌, ◌<◌, List, [], ◌∷◌, ◌++◌, Option, Some, None, Contains, length, map}
use Rattle.std.specs.List.{AllZip, filter_map}
use Rattle.std.specs.Option.{option_map}
use Rattle.spectro_spec.specs.Price.{Price}
use Rattle.spectro_spec.specs.Notion.{Bound, Notion, IsWithin}
use Rattle.spectro_theory.specs.LawsOfNotions.{IsFirstWithin}
use Rattle.spectro_energy.specs.Energy.{price_of}
use Rattle.spectro_energy.specs.declared.energy.Energy.{Energy}
use Rattle.spectro_build.specs.declared.wanted.Wanted.{Wanted}
use Rattle.spectro_hml.specs.Sheets.{SheetNode, unfolded}
use Rattle.spectro_report.specs.Reports.{nodes_told}
use Rattle.spectro_report.specs.Verdicts.{Verdict, holds, fails, IsShownAs}

-- the first price within the bound, where there is one
abbrev pub IsFirst : List Price → Bound → Option Price → Type 0
IsFirst es bound None = (e : Price) → Contains es e → ¬ IsWithin e bound
IsFirst es bound (Some e) = IsFirstWithin bound es e

-- the same for each notion of the table
abbrev pub AreFirsts : List Price → List Notion → List (Option Price) → Type 0
AreFirsts es table firsts = AllZip (λ (notion : Notion) first. IsFirst es notion.bound first) table firsts

-- prices that are kept as energies
abbrev pub firsts_of : List (Option Energy) → List (Option Price)
firsts_of = map (option_map (λ energy. price_of energy.parts))

-- those that are there
abbrev pub prices_found : List (Option Price) → List Price
prices_found firsts = filter_map (λ first. first) firsts

-- the notion holds where nothing was found, and else fails at what was found, by a node that is shown as it is to be
abbrev pub IsTold : List SheetNode → Option Price → Verdict → Type 0
IsTold nodes None holds = Unit {0}
IsTold nodes None (fails e k shown) = ⊥
IsTold nodes (Some f) holds = ⊥
IsTold nodes (Some f) (fails e k shown) = (e ≡ f) × (k < length nodes) × IsShownAs (unfolded nodes k) shown

-- the verdicts tell what is found in the prices for the notions of the table
pub record AreSides (table : List Notion) (es : List Price) (nodes : List SheetNode) (verdicts : List Verdict) : Type 0 where
  pub firsts : List (Option Price)
  pub found : AreFirsts es table firsts
  pub told : AllZip (IsTold nodes) firsts verdicts

-- each verdict tells what was found, and what was found has these nodes, in order
pub record AreTold (nodes : List SheetNode) (firsts : List (Option Price)) (numbers : List ℕ) (verdicts : List Verdict) : Type 0 where
  pub each : AllZip (IsTold nodes) firsts verdicts
  pub named : nodes_told verdicts ≡ numbers

-- what is found is wanted for the pair of the number
abbrev pub wanted_of : ℕ → List (Option Energy) → List Wanted
wanted_of pair firsts = filter_map (option_map (λ energy. record { pair = pair; price = energy })) firsts

-- the verdict is put last, tells what was found, and has these nodes
pub record IsPutLast (nodes : List SheetNode) (first : Option Price) (numbers : List ℕ) (old new : List Verdict) : Type 0 where
  pub verdict : Verdict
  pub last : new ≡ old ++ verdict ∷ []
  pub told : IsTold nodes first verdict
  pub named : nodes_told (verdict ∷ []) ≡ numbers
