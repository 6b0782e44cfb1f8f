-- The report on two systems.
use Rattle.std.specs.Prelude.{ℕ, ◌≡◌, ◌-◌, ◌^◌, List, [], ◌∷◌, ◌++◌, length, map, min}
use Rattle.std.specs.List.{sum_by}
use Rattle.spectro_spec.specs.System.{System, join}
use Rattle.spectro_spec.specs.Weighing.{Weighing}
use Rattle.spectro_spec.specs.Price.{Price}
use Rattle.spectro_spec.specs.LeastPrices.{AreLeastPrices}
use Rattle.spectro_spec.specs.Notion.{Notion}
use Rattle.spectro_game.specs.Pairs as game
use Rattle.spectro_game.specs.Pairs.{Pair}
use Rattle.spectro_game.specs.Generations.{Table}
use Rattle.spectro_game.specs.Reached.{StandsAt}
use Rattle.spectro_hml.specs.Sheets.{SheetNode}
use Rattle.spectro_build.specs.Choices.{Need}
use Rattle.spectro_build.specs.Built.{IsBuilt}
use Rattle.spectro_build.specs.LawsOfBuilding.{IsSolvedOn}
use Rattle.spectro_report.specs.Compared.{initial_of_right, forth_pair, back_pair, AreCompared}
use Rattle.spectro_report.specs.Verdicts.{Verdict, holds, fails, AreVerdicts}

-- how many states and transitions a system has, repeats counted
pub record Extent : Type 0 where
  pub states : ℕ
  pub transitions : ℕ

-- the extents of both systems, the numbers of pairs, of positions and of least prices,
-- the verdicts from left to right and from right to left, and the sheet of the formulas
pub record Report : Type 0 where
  pub left : Extent
  pub right : Extent
  pub pairs : ℕ
  pub size : ℕ
  pub energies : ℕ
  pub forth : List Verdict
  pub back : List Verdict
  pub nodes : List SheetNode

abbrev pub extent_of : System → Extent
extent_of system = record { states = system.states; transitions = length system.steps }

-- so many members have the lists of the least prices of all pairs together, or the greatest number of 64 bits where there are more
pub record AreEnergies (weighing : Weighing) (system : System) (pairs : List Pair) (count : ℕ) : Type 0 where
  pub lists : List (List Price)
  pub listed : length lists ≡ length pairs
  pub least : (k : ℕ) (x : Pair) (es : List Price) → StandsAt pairs k x → StandsAt lists k es → AreLeastPrices weighing system x.state x.set es
  pub sum : count ≡ min (sum_by length lists) (2 ^ 64 - 1)

-- the prices at which notions are said to fail, in order
abbrev pub prices_told : List Verdict → List Price
prices_told [] = []
prices_told (holds ∷ verdicts) = prices_told verdicts
prices_told (fails e k shown ∷ verdicts) = e ∷ prices_told verdicts

-- the nodes that are named for them
abbrev pub nodes_told : List Verdict → List ℕ
nodes_told [] = []
nodes_told (holds ∷ verdicts) = nodes_told verdicts
nodes_told (fails e k shown ∷ verdicts) = k ∷ nodes_told verdicts

-- the pair is to be distinguished at each of the prices
abbrev pub needs_at : Pair → List Price → List Need
needs_at x es = map (λ e. record { pair = x; price = e }) es

-- at the prices from left to right, and then at those from right to left
abbrev pub needs_told : System → System → List Verdict → List Verdict → List Need
needs_told left right forth back = needs_at (forth_pair left right) (prices_told forth) ++ needs_at (back_pair left right) (prices_told back)

-- over the least prices of all pairs the sheet is built for just that, and each verdict names the node that is built for its price
pub record IsSheetOf (weighing : Weighing) (left right : System) (pairs : List Pair) (report : Report) : Type 0 where
  pub table : Table
  pub solved : IsSolvedOn weighing (join left right) pairs table
  pub built : IsBuilt weighing (join left right) pairs table (needs_told left right report.forth report.back)
      report.nodes (nodes_told report.forth ++ nodes_told report.back)

-- the report on the two systems, by what each label weighs, and for the notions of the table
pub record IsReport (weighing : Weighing) (left right : System) (table : List Notion) (report : Report) : Type 0 where
  pub left_extent : report.left ≡ extent_of left
  pub right_extent : report.right ≡ extent_of right
  -- the pairs of the comparison, and how many positions and least prices they have
  pub pairs : List Pair
  pub compared : AreCompared left right pairs
  pub count : report.pairs ≡ length pairs
  pub size : report.size ≡ game.size pairs
  pub energies : AreEnergies weighing (join left right) pairs report.energies
  -- the verdicts of both directions
  pub forth : AreVerdicts weighing (join left right) left.initial (initial_of_right left right) report.nodes table report.forth
  pub back : AreVerdicts weighing (join left right) (initial_of_right left right) left.initial report.nodes table report.back
  -- the sheet of the formulas
  pub sheet : IsSheetOf weighing left right pairs report
