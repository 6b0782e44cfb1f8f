-- Two systems have one report: what is reached, the least prices, what fails at which price, and so the sheet and its nodes are one.
use Rattle.std.proofs.Common.{inl, inr, ◌≡◌, ◌∙◌, ◌-◌, ◌^◌, ℕ, zero, suc, List, [], ◌∷◌, ◌++◌, All, Contains, length, min, ap, sym, subst, refl, arith}
use Rattle.std.specs.List.{sum_by}
use Rattle.std.proofs.lemmas.List.{append_cancel_left}
use Rattle.spectro_spec.specs.System.{System, join}
use Rattle.spectro_spec.specs.Weighing.{Weighing}
use Rattle.spectro_spec.specs.Price.{Price}
use Rattle.spectro_spec.specs.Notion.{Notion}
use Rattle.spectro_spec.specs.LeastPrices.{AreLeastPrices}
use Rattle.spectro_spec.proofs.Members.{Contains-cases, Contains-none}
use Rattle.spectro_game.specs.Pairs.{Pair}
use Rattle.spectro_game.specs.Pairs as game
use Rattle.spectro_game.specs.Reached.{StandsAt}
use Rattle.spectro_theory.specs.LawsOfPairs.{ReachedPairsAreOne}
use Rattle.spectro_theory.proofs.LeastLists.{one_least}
use Rattle.spectro_hml.specs.Sheets.{SheetNode}
use Rattle.spectro_build.specs.Built.{IsBuilt}
use Rattle.spectro_build.specs.LawsOfBuilding.{IsSolvedOn, IsListed, SolvedTablesBuildOneSheet}
use Rattle.spectro_report.specs.Compared.{initial_of_right, forth_pair, back_pair}
use Rattle.spectro_report.specs.LawsOfReports.{ReportsAreOne}
use Rattle.spectro_report.specs.Reports.{AreEnergies, IsReport, Report, needs_at, needs_told, nodes_told, prices_told}
use Rattle.spectro_report.specs.Verdicts.{Verdict, holds, fails, AreVerdicts}
use Rattle.spectro_report.proofs.Finding.{first-member}
use Rattle.spectro_report.proofs.Reporting.{back_reached, forth_reached, needs-listed, told-long}
use Rattle.spectro_report.proofs.SameVerdicts.{same_prices, same_verdicts}

-- fronts of one length are equal where the wholes are
same_front : (xs ys zs ws : List ℕ) → length xs ≡ length zs → xs ++ ys ≡ zs ++ ws → xs ≡ zs
same_front [] ys [] ws long same = refl
same_front [] ys (z ∷ zs) ws long same = absurd (omega (arith, long))
same_front (x ∷ xs) ys [] ws long same = absurd (omega (arith, long))
same_front (x ∷ xs) ys (z ∷ zs) ws long same =
    let first : x ≡ z = cc in
    let rest : xs ++ ys ≡ zs ++ ws = cc in
    (λ i. first i ∷ xs) ∙ ap (λ ns. z ∷ ns) (same_front xs ys zs ws (omega (arith, long)) rest)

module _ (weighing : Weighing) (system : System) where
  -- the pairs have one row of lists of least prices
  same_lists : (pairs : List Pair) (lists others : List (List Price)) → length lists ≡ length pairs → length others ≡ length pairs
      → ((k : ℕ) (x : Pair) (es : List Price) → StandsAt pairs k x → StandsAt lists k es → AreLeastPrices weighing system x.state x.set es)
      → ((k : ℕ) (x : Pair) (es : List Price) → StandsAt pairs k x → StandsAt others k es → AreLeastPrices weighing system x.state x.set es) → lists ≡ others
  same_lists [] [] [] long also least other = refl
  same_lists [] (es ∷ lists) others long also least other = absurd (omega (arith, long))
  same_lists [] [] (fs ∷ others) long also least other = absurd (omega (arith, also))
  same_lists (x ∷ pairs) [] others long also least other = absurd (omega (arith, long))
  same_lists (x ∷ pairs) (es ∷ lists) [] long also least other = absurd (omega (arith, also))
  same_lists (x ∷ pairs) (es ∷ lists) (fs ∷ others) long also least other =
      ap (λ gs. gs ∷ lists) (one_least weighing system x.state x.set es fs (least zero x es refl refl) (other zero x fs refl refl))
      ∙ ap (λ more. fs ∷ more) (same_lists pairs lists others (omega (arith, long)) (omega (arith, also))
      (λ k y gs here row. least (suc k) y gs here row) (λ k y gs here row. other (suc k) y gs here row))

  same_energies : (pairs : List Pair) (one other : ℕ) → AreEnergies weighing system pairs one → AreEnergies weighing system pairs other → one ≡ other
  same_energies pairs one other are also =
      are.sum
      ∙ ap (λ lists. min (sum_by length lists) (2 ^ 64 - 1)) (same_lists pairs are.lists also.lists are.listed also.listed are.least also.least)
      ∙ sym also.sum

  -- a notion fails at a least price
  fails-least : (p q : ℕ) (nodes : List SheetNode) (es : List Price) → AreLeastPrices weighing system p (q ∷ []) es
      → (table : List Notion) (verdicts : List Verdict) → AreVerdicts weighing system p q nodes table verdicts
      → (e : Price) → Contains (prices_told verdicts) e → Contains es e
  fails-least p q nodes es least [] [] are e member = absurd (Contains-none e member)
  fails-least p q nodes es least [] (verdict ∷ verdicts) are e member = absurd are
  fails-least p q nodes es least (notion ∷ table) [] are e member = absurd are
  fails-least p q nodes es least (notion ∷ table) (holds ∷ verdicts) are e member = fails-least p q nodes es least table verdicts are.1 e member
  fails-least p q nodes es least (notion ∷ table) (fails f k shown ∷ verdicts) are e member = elim (Contains-cases f (prices_told verdicts) e member) [
    | inl same ↦ subst (Contains es) same
        (subst (λ fs. Contains fs f) (one_least weighing system p (q ∷ []) are.0.prices es are.0.least least)
        (first-member are.0.prices notion.bound f are.0.first))
    | inr later ↦ fails-least p q nodes es least table verdicts are.1 e later
  ]

module _ (weighing : Weighing) (left right : System) (table : List Notion) (one other : Report) (is : IsReport weighing left right table one)
    (also : IsReport weighing left right table other) (same : is.pairs ≡ also.pairs) (once : SolvedTablesBuildOneSheet) where
  -- both fail at the same prices
  forth_prices : prices_told one.forth ≡ prices_told other.forth
  forth_prices = same_prices weighing (join left right) left.initial (initial_of_right left right) one.nodes other.nodes table one.forth other.forth is.forth
      also.forth

  back_prices : prices_told one.back ≡ prices_told other.back
  back_prices = same_prices weighing (join left right) (initial_of_right left right) left.initial one.nodes other.nodes table one.back other.back is.back
      also.back

  needs : needs_told left right other.forth other.back ≡ needs_told left right one.forth one.back
  needs i = needs_at (forth_pair left right) (sym forth_prices i) ++ needs_at (back_pair left right) (sym back_prices i)

  listed : All (IsListed is.pairs is.sheet.table) (needs_told left right one.forth one.back)
  listed =
      let forth = forth_reached weighing left right is.pairs is.compared in
      let back = back_reached weighing left right is.pairs is.compared in
      needs-listed is.pairs is.sheet.table (forth_pair left right) (back_pair left right) (prices_told one.forth) (prices_told one.back) forth back
      (fails-least weighing (join left right) left.initial (initial_of_right left right) one.nodes _
      (is.sheet.solved.least left.initial (initial_of_right left right ∷ []) forth) table one.forth is.forth)
      (fails-least weighing (join left right) (initial_of_right left right) left.initial one.nodes _
      (is.sheet.solved.least (initial_of_right left right) (left.initial ∷ []) back) table one.back is.back)

  -- so the sheet and its nodes are the same
  sheets : (one.nodes ≡ other.nodes) × (nodes_told one.forth ++ nodes_told one.back ≡ nodes_told other.forth ++ nodes_told other.back)
  sheets =
      once weighing (join left right) is.pairs is.sheet.table also.sheet.table is.sheet.solved
      (subst (λ xs. IsSolvedOn weighing (join left right) xs also.sheet.table) (sym same) also.sheet.solved)
      (needs_told left right one.forth one.back) listed one.nodes other.nodes (nodes_told one.forth ++ nodes_told one.back)
      (nodes_told other.forth ++ nodes_told other.back) is.sheet.built
      (subst (λ wanted. IsBuilt weighing (join left right) is.pairs also.sheet.table wanted other.nodes (nodes_told other.forth ++ nodes_told other.back)) needs
      (subst (λ xs. IsBuilt weighing (join left right) xs also.sheet.table (needs_told left right other.forth other.back) other.nodes
      (nodes_told other.forth ++ nodes_told other.back)) (sym same) also.sheet.built))

  fronts : nodes_told one.forth ≡ nodes_told other.forth
  fronts = same_front (nodes_told one.forth) (nodes_told one.back) (nodes_told other.forth) (nodes_told other.back)
      (told-long one.forth ∙ ap length forth_prices ∙ sym (told-long other.forth)) sheets.1

  backs : nodes_told one.back ≡ nodes_told other.back
  backs = append_cancel_left (nodes_told other.forth) (nodes_told one.back) (nodes_told other.back)
      (ap (λ front. front ++ nodes_told one.back) (sym fronts) ∙ sheets.1)

  forths : one.forth ≡ other.forth
  forths = same_verdicts weighing (join left right) left.initial (initial_of_right left right) one.nodes table one.forth other.forth is.forth
      (subst (λ nodes. AreVerdicts weighing (join left right) left.initial (initial_of_right left right) nodes table other.forth) (sym sheets.0) also.forth)
      fronts

  backs_said : one.back ≡ other.back
  backs_said = same_verdicts weighing (join left right) (initial_of_right left right) left.initial one.nodes table one.back other.back is.back
      (subst (λ nodes. AreVerdicts weighing (join left right) (initial_of_right left right) left.initial nodes table other.back) (sym sheets.0) also.back)
      backs

  pub same_report : one ≡ other
  same_report =
      let left-is : one.left ≡ other.left = is.left_extent ∙ sym also.left_extent in
      let right-is : one.right ≡ other.right = is.right_extent ∙ sym also.right_extent in
      let count-is : one.pairs ≡ other.pairs = is.count ∙ ap length same ∙ sym also.count in
      let size-is : one.size ≡ other.size = is.size ∙ ap game.size same ∙ sym also.size in
      let energies-is : one.energies ≡ other.energies = same_energies weighing (join left right) is.pairs one.energies other.energies is.energies
      (subst (λ xs. AreEnergies weighing (join left right) xs other.energies) (sym same) also.energies) in
      λ i. record {
        left = left-is i;
        right = right-is i;
        pairs = count-is i;
        size = size-is i;
        energies = energies-is i;
        forth = forths i;
        back = backs_said i;
        nodes = sheets.0 i;
      }

pub one_report : ReachedPairsAreOne → SolvedTablesBuildOneSheet → ReportsAreOne
one_report pairs_one once weighing left right table one other is also = same_report weighing left right table one other is also
    (pairs_one (join left right) (forth_pair left right ∷ []) is.pairs also.pairs is.compared also.compared) once
