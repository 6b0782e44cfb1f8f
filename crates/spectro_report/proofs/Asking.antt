-- What is wanted for what was found.
use Rattle.std.proofs.Common.{◌≡◌, ◌∙◌, ◌+◌, ◌<◌, ℕ, suc, List, [], ◌∷◌, ◌++◌, Contains, get_or, length, take, ap, refl}
use Rattle.std.specs.Prelude.{Option, None, Some}
use Rattle.std.specs.List.{AllByRecursion}
use Rattle.std.specs.Option.{option_map}
use Rattle.std.proofs.lemmas.List.{take_more}
use Rattle.std.proofs.lemmas.List.Elements.{filter_map-append}
use Rattle.spectro_spec.specs.Price.{Price}
use Rattle.spectro_spec.proofs.Members.{Contains-first, Contains-later}
use Rattle.spectro_game.specs.Pairs.{Pair}
use Rattle.spectro_rows.specs.Rows.{row_at}
use Rattle.spectro_energy.specs.Energy.{price_of}
use Rattle.spectro_energy.specs.declared.energy.Energy.{Energy}
use Rattle.spectro_build.specs.Choices.{Need}
use Rattle.spectro_build.specs.Wanted.{IsListedIn, needs_of, pair_of}
use Rattle.spectro_build.specs.declared.wanted.Wanted.{Wanted}
use Rattle.spectro_report.specs.Firsts.{firsts_of, prices_found, wanted_of}
use Rattle.spectro_report.specs.Reports.{needs_at}

-- one more is asked for
pub wanted-more : (pair : ℕ) (firsts : List (Option Energy)) (k : ℕ) (d : Option Energy) → k < length firsts
    → wanted_of pair (take (k + 1) firsts) ≡ wanted_of pair (take k firsts) ++ wanted_of pair (get_or firsts k d ∷ [])
wanted-more pair firsts k d below =
    ap (wanted_of pair) (take_more firsts k d below)
    ∙ filter_map-append (option_map (λ energy. record { pair = pair; price = energy })) (take k firsts) (get_or firsts k d ∷ [])

-- as many are wanted as were found
pub wanted-long : (pair : ℕ) (firsts : List (Option Energy)) → length (wanted_of pair firsts) ≡ length (prices_found (firsts_of firsts))
wanted-long pair [] = refl
wanted-long pair (None ∷ firsts) = wanted-long pair firsts
wanted-long pair (Some e ∷ firsts) = ap suc (wanted-long pair firsts)

-- they are the needs of the pair at the prices that were found
pub needs-found : (pairs : List Pair) (pair : ℕ) (firsts : List (Option Energy)) (rest : List Wanted)
    → needs_of pairs (wanted_of pair firsts ++ rest) ≡ needs_at (pair_of pairs pair) (prices_found (firsts_of firsts)) ++ needs_of pairs rest
needs-found pairs pair [] rest = refl
needs-found pairs pair (None ∷ firsts) rest = needs-found pairs pair firsts rest
needs-found pairs pair (Some e ∷ firsts) rest =
    let one : Need = record { pair = pair_of pairs pair; price = price_of e.parts } in ap (λ needs. one ∷ needs) (needs-found pairs pair firsts rest)

-- where each price that was found is in the row of the pair, so is each that is wanted
pub wanted-listed : (rows : List (List Price)) (pair : ℕ) (firsts : List (Option Energy)) (rest : List Wanted) → pair < length rows
    → ((e : Price) → Contains (prices_found (firsts_of firsts)) e → Contains (row_at rows pair) e) → AllByRecursion (IsListedIn rows) rest
    → AllByRecursion (IsListedIn rows) (wanted_of pair firsts ++ rest)
wanted-listed rows pair [] rest below listed others = others
wanted-listed rows pair (None ∷ firsts) rest below listed others = wanted-listed rows pair firsts rest below listed others
wanted-listed rows pair (Some energy ∷ firsts) rest below listed others = (
  record { pair = below; price = listed (price_of energy.parts) (Contains-first (price_of energy.parts) (prices_found (firsts_of firsts))) },
  wanted-listed rows pair firsts rest below (λ e member. listed e (Contains-later (price_of energy.parts) (prices_found (firsts_of firsts)) e member)) others,
)
