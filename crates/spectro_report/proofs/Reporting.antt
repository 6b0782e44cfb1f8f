-- The report that is made of what was found and built.
use Rattle.std.proofs.Common.{inl, inr, ◌≡◌, ◌∙◌, ◌+◌, ◌-◌, ◌^◌, ℕ, List, [], ◌∷◌, ◌++◌, All, Contains, length, min, ap, sym, subst, refl, arith, append-nil}
use Rattle.std.specs.Option.{option_map}
use Rattle.std.specs.List.{AllByRecursion, sum_by}
use Rattle.std.proofs.lemmas.Bool.{cases_eq}
use Rattle.std.proofs.lemmas.List.Elements.{All-from_recursion}
use Rattle.std.proofs.lemmas.Option.{slice_get-map}
use Rattle.spectro_spec.specs.System.{System, join}
use Rattle.spectro_spec.specs.Weighing.{Weighing}
use Rattle.spectro_spec.specs.Price.{Price}
use Rattle.spectro_spec.specs.Notion.{Notion}
use Rattle.spectro_spec.specs.LeastPrices.{AreLeastPrices}
use Rattle.spectro_spec.proofs.Members.{Contains-first, Contains-later}
use Rattle.spectro_game.specs.Pairs.{Pair, IsOneOf}
use Rattle.spectro_game.specs.Pairs as game
use Rattle.spectro_game.specs.Generations.{Table}
use Rattle.spectro_game.specs.Reached.{StandsAt}
use Rattle.spectro_game.specs.Rows.{IsSolved, listed_at}
use Rattle.spectro_theory.proofs.Places.{Contains-stands, stands-left, stands-right}
use Rattle.spectro_theory.proofs.ReachedPairs.{reached-closed}
use Rattle.spectro_theory.proofs.Followers.{follows_swapped}
use Rattle.spectro_theory.proofs.RowsOfGenerations.{listed_at-first}
use Rattle.spectro_hml.specs.Sheets.{SheetNode}
use Rattle.spectro_build.specs.Choices.{Need}
use Rattle.spectro_build.specs.Built.{IsBuilt}
use Rattle.spectro_build.specs.LawsOfBuilding.{IsSolvedOn, IsListed, BuiltNodesAreExact}
use Rattle.spectro_report.specs.Compared.{AreCompared, initial_of_right, forth_pair, back_pair}
use Rattle.spectro_report.specs.Firsts.{AreSides}
use Rattle.spectro_report.specs.Reports.{AreEnergies, IsReport, Report, extent_of, needs_at, needs_told, nodes_told, prices_told}
use Rattle.spectro_report.specs.Verdicts.{Verdict, holds, fails}
use Rattle.spectro_report.proofs.Finding.{found-member}
use Rattle.spectro_report.proofs.Numbered.{needs-long}
use Rattle.spectro_report.proofs.Telling.{AreExact, prices_told-found, told-verdicts}

-- as many nodes are named as prices
pub told-long : (verdicts : List Verdict) → length (nodes_told verdicts) ≡ length (prices_told verdicts)
told-long [] = refl
told-long (holds ∷ verdicts) = told-long verdicts
told-long (fails e k shown ∷ verdicts) = omega (arith, told-long verdicts)

-- the need of a price stands where the price does
needs-at : (x : Pair) (es : List Price) (i : ℕ) (e : Price) → StandsAt es i e → StandsAt (needs_at x es) i (record { pair = x; price = e })
needs-at x es i e here = let made : Price → Need = λ f. record { pair = x; price = f } in slice_get-map made es i ∙ ap (option_map made) here

module _ (pairs : List Pair) (table : Table) where
  all_needs : (x : Pair) (es : List Price) (rest : List Need) → Contains pairs x → ((e : Price) → Contains es e → Contains (table x.state x.set) e)
      → AllByRecursion (IsListed pairs table) rest → AllByRecursion (IsListed pairs table) (needs_at x es ++ rest)
  all_needs x [] rest reached listed others = others
  all_needs x (e ∷ es) rest reached listed others = (
    record { reached = reached; listed = listed e (Contains-first e es) },
    all_needs x es rest reached (λ f member. listed f (Contains-later e es f member)) others,
  )

-- each need of prices that are listed is listed
pub needs-listed : (pairs : List Pair) (table : Table) (x y : Pair) (es fs : List Price) → Contains pairs x → Contains pairs y
    → ((e : Price) → Contains es e → Contains (table x.state x.set) e) → ((e : Price) → Contains fs e → Contains (table y.state y.set) e)
    → All (IsListed pairs table) (needs_at x es ++ needs_at y fs)
needs-listed pairs table x y es fs reached also listed too =
    All-from_recursion (IsListed pairs table) (needs_at x es ++ needs_at y fs)
    (all_needs pairs table x es (needs_at y fs) reached listed
    (subst (AllByRecursion (IsListed pairs table)) (append-nil (needs_at y fs)) (all_needs pairs table y fs [] also too tt)))

module _ (weighing : Weighing) (left right : System) (pairs : List Pair) (compared : AreCompared left right pairs) where
  p : ℕ
  p = left.initial

  q : ℕ
  q = initial_of_right left right

  pub forth_reached : Contains pairs (forth_pair left right)
  forth_reached = Contains-stands pairs (forth_pair left right) (0, compared.begins 0 (forth_pair left right) refl)

  -- the pair that is turned round follows, and where both states are one it is the same
  pub back_reached : Contains pairs (back_pair left right)
  unfolding p q
  back_reached = elim (cases_eq p q) [
    | inl same ↦ subst (λ n. Contains pairs (record { state = n; set = p ∷ [] })) same
        (subst (λ n. Contains pairs (record { state = p; set = n ∷ [] })) (sym same) forth_reached)
    | inr apart ↦ reached-closed (join left right) (forth_pair left right ∷ []) pairs compared p (q ∷ []) q (p ∷ []) forth_reached
        (follows_swapped (join left right) p (q ∷ []) q (Contains-first q []) apart)
  ]

  module _ (rows : List (List Price)) (solved : IsSolved weighing (join left right) pairs rows) where
    pub solved_on : IsSolvedOn weighing (join left right) pairs (listed_at pairs rows)
    solved_on = record { closed = reached-closed (join left right) (forth_pair left right ∷ []) pairs compared; least = solved }

    -- the lists of the least prices are the rows, place by place
    pub energies-rows : length rows ≡ length pairs → (count : ℕ) → count ≡ min (sum_by length rows) (2 ^ 64 - 1)
        → AreEnergies weighing (join left right) pairs count
    energies-rows long count sum = record {
      lists = rows;
      listed = long;
      least = λ k x es here row. subst (AreLeastPrices weighing (join left right) x.state x.set)
          (listed_at-first pairs rows k x.state x.set es
          (λ j less also. let same : j ≡ k = compared.distinct j k x also here in omega (arith, less, same)) here row)
          (solved x.state x.set (Contains-stands pairs x (k, here)));
      sum = sum;
    }

-- what is told of a side is listed
told-listed : (table : List Notion) (es : List Price) (nodes : List SheetNode) (verdicts : List Verdict) → AreSides table es nodes verdicts
    → (e : Price) → Contains (prices_told verdicts) e → Contains es e
told-listed table es nodes verdicts side e member =
    found-member es table side.firsts side.found e (subst (λ fs. Contains fs e) (prices_told-found nodes side.firsts verdicts side.told) member)

module _ (weighing : Weighing) (left right : System) (table : List Notion) (pairs : List Pair) (compared : AreCompared left right pairs)
    (rows : List (List Price)) (long : length rows ≡ length pairs) (solved : IsSolved weighing (join left right) pairs rows)
    (report : Report)
    (forth : AreSides table (listed_at pairs rows left.initial (initial_of_right left right ∷ [])) report.nodes report.forth)
    (back : AreSides table (listed_at pairs rows (initial_of_right left right) (left.initial ∷ [])) report.nodes report.back)
    (built : IsBuilt weighing (join left right) pairs (listed_at pairs rows) (needs_told left right report.forth report.back) report.nodes
    (nodes_told report.forth ++ nodes_told report.back))
    (exact : BuiltNodesAreExact) where
  wanted : All (IsListed pairs (listed_at pairs rows)) (needs_told left right report.forth report.back)
  wanted = needs-listed pairs (listed_at pairs rows) (forth_pair left right) (back_pair left right) (prices_told report.forth) (prices_told report.back)
      (forth_reached weighing left right pairs compared) (back_reached weighing left right pairs compared)
      (told-listed table _ report.nodes report.forth forth) (told-listed table _ report.nodes report.back back)

  forth_exact : AreExact weighing (join left right) left.initial (initial_of_right left right) report.nodes (prices_told report.forth) (nodes_told report.forth)
  forth_exact i k e here also =
      exact weighing (join left right) pairs (listed_at pairs rows) (needs_told left right report.forth report.back) report.nodes
      (nodes_told report.forth ++ nodes_told report.back) (solved_on weighing left right pairs compared rows solved) wanted built i k
      (record { pair = forth_pair left right; price = e })
      (stands-left (needs_at (forth_pair left right) (prices_told report.forth)) (needs_at (back_pair left right) (prices_told report.back)) i _
      (needs-at (forth_pair left right) (prices_told report.forth) i e here))
      (stands-left (nodes_told report.forth) (nodes_told report.back) i k also)

  back_exact : AreExact weighing (join left right) (initial_of_right left right) left.initial report.nodes (prices_told report.back) (nodes_told report.back)
  back_exact i k e here also =
      let needs : List Need = needs_at (forth_pair left right) (prices_told report.forth) in
      let same : length needs ≡ length (nodes_told report.forth) = needs-long (forth_pair left right) (prices_told report.forth)
      ∙ sym (told-long report.forth) in
      exact weighing (join left right) pairs (listed_at pairs rows) (needs_told left right report.forth report.back) report.nodes
      (nodes_told report.forth ++ nodes_told report.back) (solved_on weighing left right pairs compared rows solved) wanted built
      (length (nodes_told report.forth) + i) k (record { pair = back_pair left right; price = e })
      (subst (λ n. StandsAt (needs_told left right report.forth report.back) (n + i) (record { pair = back_pair left right; price = e })) same
      (stands-right needs (needs_at (back_pair left right) (prices_told report.back)) i _
      (needs-at (back_pair left right) (prices_told report.back) i e here)))
      (stands-right (nodes_told report.forth) (nodes_told report.back) i k also)

  pub is_report : report.left ≡ extent_of left → report.right ≡ extent_of right → report.pairs ≡ length pairs → report.size ≡ game.size pairs
      → report.energies ≡ min (sum_by length rows) (2 ^ 64 - 1) → IsReport weighing left right table report
  is_report left_is right_is count size sum = record {
    left_extent = left_is;
    right_extent = right_is;
    pairs = pairs;
    compared = compared;
    count = count;
    size = size;
    energies = energies-rows weighing left right pairs compared rows solved long report.energies sum;
    forth = told-verdicts weighing (join left right) left.initial (initial_of_right left right) report.nodes
        (listed_at pairs rows left.initial (initial_of_right left right ∷ []))
        (solved left.initial (initial_of_right left right ∷ []) (forth_reached weighing left right pairs compared))
        table forth.firsts report.forth forth.found forth.told forth_exact;
    back = told-verdicts weighing (join left right) (initial_of_right left right) left.initial report.nodes
        (listed_at pairs rows (initial_of_right left right) (left.initial ∷ []))
        (solved (initial_of_right left right) (left.initial ∷ []) (back_reached weighing left right pairs compared))
        table back.firsts report.back back.found back.told back_exact;
    sheet = record { table = listed_at pairs rows; solved = solved_on weighing left right pairs compared rows solved; built = built };
  }
