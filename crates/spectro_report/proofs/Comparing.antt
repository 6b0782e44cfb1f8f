-- What is said over the rows of the first pair and of the one turned round, is said from p to q and from q to p.
use Rattle.std.proofs.Common.{◌≡◌, ◌≢◌, ℕ, List, [], ◌∷◌, ◌++◌, length, map, sym, subst, refl, arith}
use Rattle.std.proofs.lemmas.Option.{get_or_from_slice_get, slice_get-get_or, slice_get_within}
use Rattle.spectro_spec.specs.System.{System}
use Rattle.spectro_spec.specs.Weighing.{Weighing}
use Rattle.spectro_spec.specs.Price.{Price}
use Rattle.spectro_spec.specs.Notion.{Notion}
use Rattle.spectro_game.specs.Pairs.{Pair, AreReachedPairs}
use Rattle.spectro_game.specs.Reached.{StandsAt}
use Rattle.spectro_game.specs.Rows.{listed_at}
use Rattle.spectro_theory.specs.Reaching.{with_all, with_last}
use Rattle.spectro_theory.proofs.RowsOfGenerations.{listed_at-first}
use Rattle.spectro_rows.specs.Rows.{row_at}
use Rattle.spectro_pairs.specs.Explored.{Explored, IsExploredFrom, start_pair, start_pairs}
use Rattle.spectro_build.specs.Built.{IsBuilt}
use Rattle.spectro_build.specs.Wanted.{pair_of}
use Rattle.spectro_report.specs.Comparisons.{IsSaid}
use Rattle.spectro_report.specs.Firsts.{AreSides}
use Rattle.spectro_report.specs.Reports.{needs_at, nodes_told, prices_told}
use Rattle.spectro_report.specs.Starts.{IsTurned, IsTwoStates}
use Rattle.spectro_report.specs.Verdicts.{verdict_of}
use Rattle.spectro_report.specs.declared.directions.Directions.{Directions}

-- the one start is its pair alone
pub one_start : (start : ℕ × ℕ) → start_pairs (start ∷ []) ≡ start_pair start ∷ []
unfolding with_all with_last
one_start start = refl

module _ (weighing : Weighing) (system : System) (start : ℕ × ℕ) (explored : Explored) (source : IsExploredFrom system weighing (start ∷ []) explored) where
  pub start-reached : AreReachedPairs system (start_pair start ∷ []) explored.pairs
  start-reached = subst (λ starts. AreReachedPairs system starts explored.pairs) (one_start start) source.reached

  pub start-first : StandsAt explored.pairs 0 (start_pair start)
  start-first = start-reached.begins 0 (start_pair start) refl

  -- where its states are two
  pub start-apart : start.1 ≢ start.0 → IsTwoStates explored.pairs
  start-apart apart = record { p = start.0; q = start.1; here = start-first; apart = apart }

  module _ (rows : List (List Price)) (long : length rows ≡ length explored.pairs) where
    listed-row : (k : ℕ) (x : Pair) → StandsAt explored.pairs k x → listed_at explored.pairs rows x.state x.set ≡ row_at rows k
    listed-row k x here =
        listed_at-first explored.pairs rows k x.state x.set (row_at rows k)
        (λ j less also. let same : j ≡ k = start-reached.distinct j k x also here in omega (arith, less, same)) here
        (slice_get-get_or rows k [] (omega (arith, long, slice_get_within explored.pairs k x here)))

    pair-is : (k : ℕ) (x : Pair) → StandsAt explored.pairs k x → pair_of explored.pairs k ≡ x
    pair-is k x here = get_or_from_slice_get explored.pairs k x (record { state = 0; set = [] }) here

    pub said-start : (table : List Notion) (turned : ℕ) (said : Directions) → IsTurned explored.pairs turned
        → AreSides table (row_at rows 0) said.sheet (map verdict_of said.forth.items)
        → AreSides table (row_at rows turned) said.sheet (map verdict_of said.back.items)
        → IsBuilt weighing system explored.pairs (listed_at explored.pairs rows)
        (needs_at (pair_of explored.pairs 0) (prices_told (map verdict_of said.forth.items)) ++
        needs_at (pair_of explored.pairs turned) (prices_told (map verdict_of said.back.items))) said.sheet
        (nodes_told (map verdict_of said.forth.items) ++ nodes_told (map verdict_of said.back.items))
        → IsSaid weighing system start.0 start.1 table explored.pairs rows said
    said-start table turned said is-turned forth back built =
        let back_start : Pair = start_pair (start.1, start.0) in
        let there : StandsAt explored.pairs turned back_start = is-turned start.0 start.1 start-first in
        record {
          forth = subst (λ es. AreSides table es said.sheet (map verdict_of said.forth.items)) (sym (listed-row 0 (start_pair start) start-first)) forth;
          back = subst (λ es. AreSides table es said.sheet (map verdict_of said.back.items)) (sym (listed-row turned back_start there)) back;
          built = rw (pair-is 0 (start_pair start) start-first, pair-is turned back_start there) at built;
        }
