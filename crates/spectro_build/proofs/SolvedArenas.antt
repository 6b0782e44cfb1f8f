-- A table that is solved from an arena, as the laws of building speak of it.
use Rattle.std.proofs.Common.{◌≡◌, ℕ, ◌<◌, List, [], All, Contains, length, subst, sym, arith}
use Rattle.std.proofs.lemmas.List.Elements.{All-map, All-weaker}
use Rattle.std.proofs.lemmas.Option.{slice_get-get_or}
use Rattle.spectro_spec.specs.System.{System}
use Rattle.spectro_spec.specs.Weighing.{Weighing}
use Rattle.spectro_spec.specs.Price.{Price}
use Rattle.spectro_game.specs.Pairs.{Pair}
use Rattle.spectro_game.specs.Reached.{StandsAt}
use Rattle.spectro_game.specs.Rows.{listed_at}
use Rattle.spectro_energy.specs.Energy.{price_of}
use Rattle.spectro_rows.specs.Rows.{row_at}
use Rattle.spectro_theory.proofs.Places.{Contains-stands, stands-below}
use Rattle.spectro_theory.proofs.ReachedPairs.{reached-closed}
use Rattle.spectro_pairs.specs.Explored.{Explored, IsExploredFrom, start_pairs}
use Rattle.spectro_solve.proofs.Listing.{listed-at}
use Rattle.spectro_build.specs.LawsOfBuilding.{IsSolvedOn, IsListed}
use Rattle.spectro_build.specs.Wanted.{IsSolvedFrom, IsListedIn, need_of, needs_of, pair_of}
use Rattle.spectro_build.specs.declared.wanted.Wanted.{Wanted}

-- the pair of a number
pub pair-stands : (pairs : List Pair) (k : ℕ) → k < length pairs → StandsAt pairs k (pair_of pairs k)
pair-stands pairs k below = slice_get-get_or pairs k (record { state = 0; set = [] }) below

module _ (system : System) (weighing : Weighing) (starts : List (ℕ × ℕ)) (explored : Explored) (source : IsExploredFrom system weighing starts explored)
    (rows : List (List Price)) (solved : IsSolvedFrom explored rows) where
  -- the row of a pair is that of its number
  pub row-listed : (k : ℕ) (x : Pair) → StandsAt explored.pairs k x → listed_at explored.pairs rows x.state x.set ≡ row_at rows k
  row-listed k x here = listed-at system weighing starts explored source rows k x [] here (omega (arith, solved.count, stands-below explored.pairs k x here))

  -- the table is solved on the pairs
  pub solved-on : IsSolvedOn weighing system explored.pairs (listed_at explored.pairs rows)
  solved-on = record {
    closed = reached-closed system (start_pairs starts) explored.pairs source.reached;
    least = solved.solved system weighing starts source;
  }

  -- what is listed in the row of a number is listed for the pair of the number
  pub wanted-listed : (one : Wanted) → IsListedIn rows one → IsListed explored.pairs (listed_at explored.pairs rows) (need_of explored.pairs one)
  wanted-listed one listed =
      let here = pair-stands explored.pairs one.pair (omega (arith, solved.count, listed.pair)) in
      record {
        reached = Contains-stands explored.pairs (pair_of explored.pairs one.pair) (one.pair, here);
        listed = subst (λ es. Contains es (price_of one.price.parts)) (sym (row-listed one.pair (pair_of explored.pairs one.pair) here)) listed.price;
      }

  pub all-listed : (wanted : List Wanted) → All (IsListedIn rows) wanted
      → All (IsListed explored.pairs (listed_at explored.pairs rows)) (needs_of explored.pairs wanted)
  all-listed wanted listed = All-map (IsListed explored.pairs (listed_at explored.pairs rows)) (need_of explored.pairs) wanted
      (All-weaker (IsListedIn rows) (λ one. IsListed explored.pairs (listed_at explored.pairs rows) (need_of explored.pairs one)) wanted-listed wanted listed)
