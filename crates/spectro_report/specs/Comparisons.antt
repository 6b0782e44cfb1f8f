-- What is found where a state p is compared with a state q.
use Rattle.std.specs.Prelude.{ℕ, ◌≡◌, ◌-◌, ◌^◌, List, [], ◌∷◌, ◌++◌, Option, length, map, min, take, drop}
use Rattle.std.specs.List.{sum_by}
use Rattle.spectro_spec.specs.System.{System}
use Rattle.spectro_spec.specs.Weighing.{Weighing}
use Rattle.spectro_spec.specs.Price.{Price}
use Rattle.spectro_spec.specs.Notion.{Notion}
use Rattle.spectro_game.specs.Pairs as game
use Rattle.spectro_game.specs.Pairs.{Pair, AreReachedPairs}
use Rattle.spectro_game.specs.Rows.{IsSolved, listed_at}
use Rattle.spectro_pairs.specs.Explored.{Explored, IsExploredFrom, start_pair}
use Rattle.spectro_hml.specs.Sheets.{SheetNode}
use Rattle.spectro_build.specs.Built.{IsBuilt}
use Rattle.spectro_report.specs.Firsts.{AreSides, AreTold}
use Rattle.spectro_report.specs.Reports.{needs_at, nodes_told, prices_told}
use Rattle.spectro_report.specs.Verdicts.{verdict_of}
use Rattle.spectro_report.specs.declared.comparison.Comparison.{Comparison}
use Rattle.spectro_report.specs.declared.directions.Directions.{Directions}

-- what was found from left to right is told with the first half of the numbers, and what was found from right to left with the others, by the sheet
pub record AreBothTold (nodes : List SheetNode) (firsts others : List (Option Price)) (half : ℕ) (numbers : List ℕ) (said : Directions) : Type 0 where
  pub sheet : said.sheet ≡ nodes
  pub forth : AreTold nodes firsts (take half numbers) (map verdict_of said.forth.items)
  pub back : AreTold nodes others (drop half numbers) (map verdict_of said.back.items)

-- over the rows of the least prices of the pairs it is said of the notions what is so from p to q and from q to p, by the sheet that is built for just that
pub record IsSaid (weighing : Weighing) (system : System) (p q : ℕ) (table : List Notion) (pairs : List Pair) (rows : List (List Price))
    (said : Directions) : Type 0 where
  pub forth : AreSides table (listed_at pairs rows p (q ∷ [])) said.sheet (map verdict_of said.forth.items)
  pub back : AreSides table (listed_at pairs rows q (p ∷ [])) said.sheet (map verdict_of said.back.items)
  pub built : IsBuilt weighing system pairs (listed_at pairs rows)
      (needs_at (start_pair (p, q)) (prices_told (map verdict_of said.forth.items)) ++
      needs_at (start_pair (q, p)) (prices_told (map verdict_of said.back.items)))
      said.sheet (nodes_told (map verdict_of said.forth.items) ++ nodes_told (map verdict_of said.back.items))

-- the pairs that the comparison reaches, the rows of their least prices, how many there are of both, and what is said
pub record IsComparison (weighing : Weighing) (system : System) (p q : ℕ) (table : List Notion) (found : Comparison) : Type 0 where
  pub pairs : List Pair
  pub reached : AreReachedPairs system (start_pair (p, q) ∷ []) pairs
  pub rows : List (List Price)
  pub listed : length rows ≡ length pairs
  pub solved : IsSolved weighing system pairs rows
  pub count : found.pairs ≡ length pairs
  pub size : found.size ≡ game.size pairs
  pub energies : found.energies ≡ min (sum_by length rows) (2 ^ 64 - 1)
  pub said : IsSaid weighing system p q table pairs rows found.said

-- said of each weighing and each start from which the arena was explored
abbrev pub IsComparisonIn : System → Explored → List Notion → Comparison → Type 0
IsComparisonIn system explored table found =
    (weighing : Weighing) (start : ℕ × ℕ) → IsExploredFrom system weighing (start ∷ []) explored → IsComparison weighing system start.0 start.1 table found
