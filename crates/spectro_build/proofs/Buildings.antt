-- The sheet that is built, from what the parts of the builder leave.
use Rattle.std.proofs.Common.{◌≡◌, ◌∙◌, ℕ, suc, ◌≤◌, List, [], ◌∷◌, All, Contains, length, map, refl, sym, ap, subst, arith, Some, slice_get}
use Rattle.std.specs.Prelude.{◌↔◌}
use Rattle.std.specs.Option.{option_map}
use Rattle.std.proofs.lemmas.List.Elements.{All-head, All-tail, All-contains, All-contains_itself, All-weaker}
use Rattle.std.proofs.lemmas.Option.{slice_get-map}
use Rattle.spectro_spec.specs.System.{System}
use Rattle.spectro_spec.specs.Weighing.{Weighing}
use Rattle.spectro_spec.specs.Price.{Price, IsFirstSmaller}
use Rattle.spectro_spec.specs.LeastPrices.{Rises}
use Rattle.spectro_spec.proofs.Membership.{Contains-map, Contains-map_cases}
use Rattle.spectro_game.specs.Reached.{StandsAt}
use Rattle.spectro_game.specs.Rows.{listed_at}
use Rattle.spectro_game.specs.Generations.{Table}
use Rattle.spectro_rows.specs.Rows.{row_at}
use Rattle.spectro_theory.proofs.Places.{StandsIn-member}
use Rattle.spectro_theory.specs.LawsOfGenerations.{ArePartsUpTo}
use Rattle.spectro_pairs.specs.Explored.{Explored, IsExploredFrom}
use Rattle.spectro_solve.specs.Tables.{HasRoom, HaveRoom}
use Rattle.spectro_build.specs.Choices.{Need}
use Rattle.spectro_build.specs.Keys.{IsKey, need_at, needs_at}
use Rattle.spectro_build.specs.Needed.{AreInOrder, AreNeeded, IsNeeded, as_wanted, as_taken, height, IsBuiltBefore}
use Rattle.spectro_build.specs.Needs.{ArePut, DoKeysRise, row_of}
use Rattle.spectro_build.specs.Wanted.{IsSolvedFrom, pair_of}
use Rattle.spectro_build.specs.declared.key.Key.{Key}
use Rattle.spectro_build.proofs.KeySets.{put-members}
use Rattle.spectro_build.proofs.NamedNeeds.{key-rises, key-row, key-stands, price-stands}
use Rattle.spectro_build.proofs.NeedKeys.{places-first}
use Rattle.spectro_build.proofs.NeededSets.{needed-within}

-- the parts of a solved table are low
part-room : (n : ℕ) → n ≤ 500000 → (e : Price) → ArePartsUpTo n e → HasRoom e
part-room n few e parts = record {
  observations = let h = parts.observations in omega arith;
  conjunctions = let h = parts.conjunctions in omega arith;
  deepest_positive = let h = parts.deepest_positive in omega arith;
  other_positive = let h = parts.other_positive in omega arith;
  deepest_negative = let h = parts.deepest_negative in omega arith;
  negations = let h = parts.negations in omega arith;
  weighted_depth = let h = parts.weighted_depth in omega arith;
}

pub solved-room : (explored : Explored) (rows : List (List Price)) → IsSolvedFrom explored rows → length explored.pairs ≤ 500000 → HaveRoom rows
solved-room explored rows solved few = All-weaker (All (ArePartsUpTo (length explored.pairs))) (All HasRoom)
    (All-weaker (ArePartsUpTo (length explored.pairs)) HasRoom (part-room (length explored.pairs) few)) rows solved.parts

-- ---- order
module _ (system : System) (weighing : Weighing) (starts : List (ℕ × ℕ)) (explored : Explored) (source : IsExploredFrom system weighing starts explored)
    (rows : List (List Price)) (solved : IsSolvedFrom explored rows) where
  before : (one other : Key) → IsKey rows one → IsKey rows other → IsFirstSmaller (row_of one) (row_of other)
      → IsBuiltBefore explored.pairs (need_at explored.pairs rows one) (need_at explored.pairs rows other)
  before one other first second smaller =
      places-first explored.pairs (listed_at explored.pairs rows) (need_at explored.pairs rows one) (need_at explored.pairs rows other)
      one.pair other.pair one.place other.place source.reached.distinct
      (subst Rises (sym (row one first)) (key-rises system weighing starts explored source rows solved one first))
      (key-stands system weighing starts explored source rows solved one first) (key-stands system weighing starts explored source rows solved other second)
      (stands one first) (stands other second)
      (subst (λ n. IsFirstSmaller (n ∷ one.pair ∷ one.place ∷ []) (height (need_at explored.pairs rows other) ∷ other.pair ∷ other.place ∷ []))
      (level one first)
      (subst (λ n. IsFirstSmaller (row_of one) (n ∷ other.pair ∷ other.place ∷ [])) (level other second) smaller))
    where
      level : (key : Key) → IsKey rows key → key.height ≡ height (need_at explored.pairs rows key)
      level key is = ap (λ (z : Key). z.height) is.value

      row : (key : Key) → IsKey rows key
          → listed_at explored.pairs rows (pair_of explored.pairs key.pair).state (pair_of explored.pairs key.pair).set ≡ row_at rows key.pair
      row key is = key-row system weighing starts explored source rows solved key is

      stands : (key : Key) → IsKey rows key
          → StandsAt (listed_at explored.pairs rows (pair_of explored.pairs key.pair).state (pair_of explored.pairs key.pair).set) key.place
          (need_at explored.pairs rows key).price
      stands key is = subst (λ es. StandsAt es key.place (need_at explored.pairs rows key).price) (sym (row key is))
          (price-stands system weighing starts explored source rows solved key is)

  pub in-order : (keys : List Key) → All (IsKey rows) keys → DoKeysRise keys → AreInOrder explored.pairs (needs_at explored.pairs rows keys)
  in-order [] keyed rise = tt
  in-order (key ∷ keys) keyed rise = (
    (λ y member.
        let (other, there, same) = Contains-map_cases (need_at explored.pairs rows) keys y member in
        let (j, stands) = StandsIn-member keys other there in
        subst (IsBuiltBefore explored.pairs (need_at explored.pairs rows key)) same
        (before key other (All-head (IsKey rows) key keys keyed) (All-contains (IsKey rows) keys other (All-tail (IsKey rows) key keys keyed) there)
        (rise 0 (suc j) key other (omega arith) refl stands))),
    in-order keys (All-tail (IsKey rows) key keys keyed) (λ i j one other less here there. rise (suc i) (suc j) one other (omega (arith, less)) here there),
  )

-- ---- keys that were put, and in another order
pub put-keyed : (rows : List (List Price)) (wanted old : List Key) → ArePut [] wanted old → All (IsKey rows) wanted → All (IsKey rows) old
put-keyed rows wanted old put keyed = All-weaker (Contains old) (IsKey rows)
    (λ key member. All-contains (IsKey rows) wanted key keyed ((put-members wanted old put key).1 member)) old (All-contains_itself old)

pub sorted-keyed : (rows : List (List Price)) (closed sorted : List Key) → ((key : Key) → Contains closed key ↔ Contains sorted key) → All (IsKey rows) closed
    → All (IsKey rows) sorted
sorted-keyed rows closed sorted same keyed = All-weaker (Contains sorted) (IsKey rows)
    (λ key member. All-contains (IsKey rows) closed key keyed ((same key).1 member)) sorted (All-contains_itself sorted)

-- what is needed for them
pub needed-put : (weighing : Weighing) (system : System) (table : Table) (needs_of_key : Key → Need) (wanted old closed sorted : List Key)
    → ArePut [] wanted old → ((key : Key) → Contains closed key ↔ Contains sorted key)
    → AreNeeded weighing system table (map needs_of_key old) (map needs_of_key closed)
    → AreNeeded weighing system table (map needs_of_key wanted) (map needs_of_key sorted)
needed-put weighing system table f wanted old closed sorted put same needed x = (
  (λ member.
      let (key, there, is) = Contains-map_cases f sorted x member in
      go old wanted (λ other. (put-members wanted old put other).1) x
      ((needed x).0 (subst (Contains (map f closed)) is (Contains-map f closed key ((same key).1 there))))),
  (λ need.
      let (key, there, is) = Contains-map_cases f closed x ((needed x).1 (go wanted old (λ other. (put-members wanted old put other).0) x need)) in
      subst (Contains (map f sorted)) is (Contains-map f sorted key ((same key).0 there))),
)
  where
    go : (ones others : List Key) → ((key : Key) → Contains ones key → Contains others key) → (y : Need)
        → IsNeeded weighing system table (map f ones) y → IsNeeded weighing system table (map f others) y
    go ones others within y need = needed-within weighing system table (map f ones) (IsNeeded weighing system table (map f others))
        (λ z member. let (key, there, is) = Contains-map_cases f ones z member in
        subst (IsNeeded weighing system table (map f others)) is (as_wanted (f key) (Contains-map f others key (within key there))))
        (λ z choice w first is takes. as_taken z choice w first is takes) y need

-- ---- numbers
pub numbered-needs : (f : Key → Need) (keys : List Key) (numbers : List ℕ) (wanted : List Key) → map (slice_get keys) numbers ≡ map Some wanted
    → map (slice_get (map f keys)) numbers ≡ map Some (map f wanted)
numbered-needs f keys [] [] is = refl
numbered-needs f keys [] (key ∷ wanted) is = absurd (cc)
numbered-needs f keys (n ∷ numbers) [] is = absurd (cc)
numbered-needs f keys (n ∷ numbers) (key ∷ wanted) is =
    let first : slice_get keys n ≡ Some key = cc in
    let later : map (slice_get keys) numbers ≡ map Some wanted = cc in
    let one : slice_get (map f keys) n ≡ Some (f key) = slice_get-map f keys n ∙ ap (option_map f) first in
    let rest = numbered-needs f keys numbers wanted later in
    cc
