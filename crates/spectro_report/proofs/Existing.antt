-- Any two systems have a report.
use Rattle.std.proofs.Common.{◌≡◌, ◌∙◌, ◌+◌, ◌-◌, ◌^◌, ◌<◌, ℕ, List, [], ◌∷◌, ◌++◌, length, map, min, take, drop, ap, sym, subst, refl, arith, take-append-drop}
use Rattle.std.specs.Prelude.{Option}
use Rattle.std.specs.Option.{option_map}
use Rattle.std.specs.List.{sum_by}
use Rattle.std.proofs.lemmas.List.{length-map, length-take-le, length-drop}
use Rattle.std.proofs.lemmas.Option.{slice_get-map}
use Rattle.spectro_spec.specs.System.{System, join}
use Rattle.spectro_spec.specs.Weighing.{Weighing}
use Rattle.spectro_spec.specs.Price.{Price}
use Rattle.spectro_spec.specs.Notion.{Notion}
use Rattle.spectro_spec.specs.LeastPrices.{AreLeastPrices}
use Rattle.spectro_game.specs.Pairs.{Pair}
use Rattle.spectro_game.specs.Pairs as game
use Rattle.spectro_game.specs.Reached.{StandsAt}
use Rattle.spectro_game.specs.Rows.{IsSolved, listed_at}
use Rattle.spectro_theory.proofs.Places.{StandsIn-member, stands-below, stands-left, stands-right}
use Rattle.spectro_theory.proofs.Reaching.{some_pairs}
use Rattle.spectro_theory.proofs.RowsOfGenerations.{listed_at-first}
use Rattle.spectro_theory.proofs.Universe.{some_least}
use Rattle.spectro_hml.specs.Sheets.{SheetNode}
use Rattle.spectro_build.specs.Built.{IsBuilt}
use Rattle.spectro_build.specs.LawsOfBuilding.{BuiltNodesAreExact, ListedPricesHaveASheet}
use Rattle.spectro_report.specs.Compared.{AreCompared, initial_of_right, forth_pair, back_pair}
use Rattle.spectro_report.specs.Firsts.{AreFirsts, AreTold, prices_found}
use Rattle.spectro_report.specs.LawsOfReports.{ReportsExist}
use Rattle.spectro_report.specs.Reports.{IsReport, Report, extent_of, needs_at}
use Rattle.spectro_report.specs.Verdicts.{Verdict}
use Rattle.spectro_report.proofs.Finding.{found-member, some_firsts}
use Rattle.spectro_report.proofs.Reporting.{back_reached, forth_reached, is_report, needs-listed, solved_on}
use Rattle.spectro_report.proofs.Numbered.{built-told, number-below, numbers-long}
use Rattle.spectro_report.proofs.Telling.{some_told}

-- there is a list of the pairs
pub some_compared : (left right : System) → (pairs : List Pair) × AreCompared left right pairs
some_compared left right = some_pairs (join left right) (forth_pair left right ∷ [])
    (λ i j x first second. only i j (stands-below (forth_pair left right ∷ []) i x first) (stands-below (forth_pair left right ∷ []) j x second))
  where
    only : (i j : ℕ) → i < 1 → j < 1 → i ≡ j
    only i j first second = omega arith

module _ (weighing : Weighing) (left right : System) (pairs : List Pair) (compared : AreCompared left right pairs) where
  least : Pair → List Price
  least x = (some_least weighing (join left right) x.state x.set).0

  -- the least prices of each of the pairs, in their order
  pub rows : List (List Price)
  rows = map least pairs

  rows-solved : IsSolved weighing (join left right) pairs rows
  unfolding least rows
  rows-solved p qs reached =
      let x : Pair = record { state = p; set = qs } in
      let at = StandsIn-member pairs x reached in
      let row : listed_at pairs rows p qs ≡ least x = listed_at-first pairs rows at.0 p qs (least x)
      (λ j less also. let same : j ≡ at.0 = compared.distinct j at.0 x also at.1 in omega (arith, less, same)) at.1
      (slice_get-map least pairs at.0 ∙ ap (option_map least) at.1) in
      subst (AreLeastPrices weighing (join left right) p qs) (sym row) (some_least weighing (join left right) p qs).1

-- the report with the verdicts that tell what was found, by the sheet that is built for it
module _ (exact : BuiltNodesAreExact) (weighing : Weighing) (left right : System) (table : List Notion)
    (pairs : List Pair) (compared : AreCompared left right pairs) (firsts others : List (Option Price))
    (found : AreFirsts (listed_at pairs (rows weighing left right pairs compared) left.initial (initial_of_right left right ∷ [])) table firsts)
    (also : AreFirsts (listed_at pairs (rows weighing left right pairs compared) (initial_of_right left right) (left.initial ∷ [])) table others)
    (nodes : List SheetNode) (numbers : List ℕ)
    (built : IsBuilt weighing (join left right) pairs (listed_at pairs (rows weighing left right pairs compared))
    (needs_at (forth_pair left right) (prices_found firsts) ++ needs_at (back_pair left right) (prices_found others)) nodes numbers) where
  half : ℕ
  half = length (prices_found firsts)

  whole : take half numbers ++ drop half numbers ≡ numbers
  whole = take-append-drop half numbers

  below : (i k : ℕ) → StandsAt numbers i k → k < length nodes
  below = number-below weighing (join left right) pairs (listed_at pairs (rows weighing left right pairs compared)) (forth_pair left right)
      (back_pair left right) (prices_found firsts) (prices_found others) nodes numbers built

  long : length numbers ≡ length (prices_found firsts) + length (prices_found others)
  long = numbers-long weighing (join left right) pairs (listed_at pairs (rows weighing left right pairs compared)) (forth_pair left right)
      (back_pair left right) (prices_found firsts) (prices_found others) nodes numbers built

  forth : (verdicts : List Verdict) × AreTold nodes firsts (take half numbers) verdicts
  unfolding half
  forth = some_told nodes firsts (take half numbers)
      (length-take-le half numbers (omega (arith, long)))
      (λ i k here. below i k (subst (λ ns. StandsAt ns i k) whole (stands-left (take half numbers) (drop half numbers) i k here)))

  back : (verdicts : List Verdict) × AreTold nodes others (drop half numbers) verdicts
  unfolding half
  back = some_told nodes others (drop half numbers)
      (omega (arith, length-drop half numbers, long))
      (λ i k here. below (length (take half numbers) + i) k
      (subst (λ ns. StandsAt ns (length (take half numbers) + i) k) whole (stands-right (take half numbers) (drop half numbers) i k here)))

  pub made_report : (report : Report) × IsReport weighing left right table report
  unfolding rows
  made_report =
      let report : Report = record {
        left = extent_of left;
        right = extent_of right;
        pairs = length pairs;
        size = game.size pairs;
        energies = min (sum_by length (rows weighing left right pairs compared)) (2 ^ 64 - 1);
        forth = forth.0;
        back = back.0;
        nodes = nodes;
      } in (
        report,
        is_report weighing left right table pairs compared (rows weighing left right pairs compared)
            (length-map pairs (least weighing left right pairs compared)) (rows-solved weighing left right pairs compared) report
            (record { firsts = firsts; found = found; told = forth.1.each }) (record { firsts = others; found = also; told = back.1.each })
            (built-told weighing (join left right) pairs (listed_at pairs (rows weighing left right pairs compared)) (forth_pair left right)
            (back_pair left right) firsts others nodes numbers built (take half numbers) (drop half numbers) whole forth.0 back.0 forth.1 back.1)
            exact refl refl refl refl refl,
      )

pub some_report : ListedPricesHaveASheet → BuiltNodesAreExact → ReportsExist
some_report sheets exact weighing left right table =
    let (pairs, compared) = some_compared left right in
    let lists : List (List Price) = rows weighing left right pairs compared in
    let solved = rows-solved weighing left right pairs compared in
    let forth = some_firsts (listed_at pairs lists left.initial (initial_of_right left right ∷ [])) table in
    let back = some_firsts (listed_at pairs lists (initial_of_right left right) (left.initial ∷ [])) table in
    let listed = needs-listed pairs (listed_at pairs lists) (forth_pair left right) (back_pair left right) (prices_found forth.0) (prices_found back.0)
    (forth_reached weighing left right pairs compared) (back_reached weighing left right pairs compared)
    (found-member (listed_at pairs lists left.initial (initial_of_right left right ∷ [])) table forth.0 forth.1)
    (found-member (listed_at pairs lists (initial_of_right left right) (left.initial ∷ [])) table back.0 back.1) in
    let built = sheets weighing (join left right) pairs (listed_at pairs lists)
    (needs_at (forth_pair left right) (prices_found forth.0) ++ needs_at (back_pair left right) (prices_found back.0))
    (solved_on weighing left right pairs compared lists solved) listed in
    made_report exact weighing left right table pairs compared forth.0 back.0 forth.1 back.1 built.0 built.1 built.2
