-- The node of a choice, by the places of keys.
use Rattle.std.proofs.Common.{◌≡◌, ◌∙◌, inl, inr, ℕ, ◌+◌, ◌<◌, List, [], ◌∷◌, ◌++◌, All, Contains, length, map, sym, ap, subst, arith, Some}
use Rattle.std.proofs.lemmas.Bool.{cases_lt, cases_eq}
use Rattle.std.proofs.lemmas.List.{length_push}
use Rattle.std.proofs.lemmas.List.Elements.{All-contains}
use Rattle.spectro_spec.specs.System.{System}
use Rattle.spectro_spec.specs.Weighing.{Weighing}
use Rattle.spectro_spec.specs.Price.{Price}
use Rattle.spectro_spec.proofs.Membership.{Contains-map, Contains-map_cases}
use Rattle.spectro_game.specs.Generations.{Table}
use Rattle.spectro_game.specs.Reached.{StandsAt}
use Rattle.spectro_game.specs.Rows.{listed_at}
use Rattle.spectro_hml.specs.Sheets.{SheetNode}
use Rattle.spectro_theory.specs.Reaching.{StandOnce}
use Rattle.spectro_theory.proofs.Places.{Contains-stands, holds-at, stands-cases, stands-map, stands-one, stands-below}
use Rattle.spectro_pairs.specs.Explored.{Explored, IsExploredFrom, IsPairWithin}
use Rattle.spectro_build.specs.Built.{IsNodeOf}
use Rattle.spectro_build.specs.Choices.{Need, ClauseNeed, Choice, by_split, choice_at, taken}
use Rattle.spectro_build.specs.Chosen.{clause_at}
use Rattle.spectro_build.specs.Kept.{keys_of_clauses, keys_taken, kept_choice}
use Rattle.spectro_build.specs.Keys.{IsKey, need_at, needs_at}
use Rattle.spectro_build.specs.Needed.{AreClosed, height}
use Rattle.spectro_build.specs.Needs.{DoKeysRise}
use Rattle.spectro_build.specs.Wanted.{IsSolvedFrom, pair_of}
use Rattle.spectro_build.specs.Written.{AreNodesOf, IsKeptNode}
use Rattle.spectro_build.specs.declared.choosing.Chosen.{Chosen}
use Rattle.spectro_build.specs.declared.choosing.Chosen.TheVariants.{Observed, Split}
use Rattle.spectro_build.specs.declared.clauses.SignedKey.{SignedKey}
use Rattle.spectro_build.specs.declared.key.Key.{Key}
use Rattle.spectro_build.proofs.Closings.{taken-kept}
use Rattle.spectro_build.proofs.Descents.{taken-lower}
use Rattle.spectro_build.proofs.NamedNeeds.{key-member, key-stands, need-one}
use Rattle.spectro_build.proofs.SplitPairs.{split-once, stands-map_cases}

-- a lower key stands before
lower-stands : (keys : List Key) (i k : ℕ) (one other : Key) → DoKeysRise keys → StandsAt keys i one → StandsAt keys k other → other.height < one.height → k < i
lower-stands keys i k one other rise here there lower = elim (cases_lt k i) [
  | inl before ↦ before
  | inr after ↦ absurd (elim (cases_eq i k) [
    | inl same ↦ let is : one ≡ other = stands-one keys k one other (subst (λ n. StandsAt keys n one) same here) there in
        let level : one.height ≡ other.height = ap (λ (z : Key). z.height) is in
        omega arith
    | inr apart ↦ elim (rise i k one other (omega (arith, after, apart)) here there) [
      | inl less ↦ omega arith
      | inr same ↦ let level = same.0 in omega arith
    ]
  ])
]

module _ (system : System) (weighing : Weighing) (starts : List (ℕ × ℕ)) (explored : Explored) (source : IsExploredFrom system weighing starts explored)
    (rows : List (List Price)) (solved : IsSolvedFrom explored rows) (keys : List Key) (keyed : All (IsKey rows) keys)
    (closed : AreClosed weighing system (listed_at explored.pairs rows) (needs_at explored.pairs rows keys))
    (i : ℕ) (key : Key) (here : StandsAt keys i key) (signed : List SignedKey) (chosen : Chosen)
    (choice : choice_at weighing system (listed_at explored.pairs rows) (need_at explored.pairs rows key)
    ≡ Some (kept_choice system explored.pairs rows signed chosen))
    (taken_keyed : All (IsKey rows) (keys_taken signed chosen)) where
  abbrev made : Choice
  made = kept_choice system explored.pairs rows signed chosen

  key-is : IsKey rows key
  key-is = holds-at (IsKey rows) keys i key keyed here

  -- what is taken is needed
  takes : (other : Key) → Contains (keys_taken signed chosen) other → Contains (taken made) (need_at explored.pairs rows other)
  takes other member = subst (λ l. Contains l (need_at explored.pairs rows other)) (sym (taken-kept system explored.pairs rows signed chosen))
      (Contains-map (need_at explored.pairs rows) (keys_taken signed chosen) other member)

  pub taken-needed : (other : Key) → Contains (keys_taken signed chosen) other → Contains keys other
  taken-needed other member = key-member system weighing starts explored source rows solved keys other keyed
      (All-contains (IsKey rows) (keys_taken signed chosen) other taken_keyed member)
      (closed (need_at explored.pairs rows key) made (need_at explored.pairs rows other)
      (Contains-map (need_at explored.pairs rows) keys key (Contains-stands keys key (i, here))) choice (takes other member))

  -- and stands before
  pub taken-before : DoKeysRise keys → (other : Key) (k : ℕ) → Contains (keys_taken signed chosen) other → StandsAt keys k other → k < i
  taken-before rise other k member there = lower-stands keys i k key other rise here there
      (let lower : height (need_at explored.pairs rows other) < height (need_at explored.pairs rows key) =
      taken-lower weighing system (listed_at explored.pairs rows) (need_at explored.pairs rows key) made (need_at explored.pairs rows other) choice
      (takes other member) in
      let first : key.height ≡ height (need_at explored.pairs rows key) = ap (λ (z : Key). z.height) key-is.value in
      let second : other.height ≡ height (need_at explored.pairs rows other) =
      ap (λ (z : Key). z.height) (All-contains (IsKey rows) (keys_taken signed chosen) other taken_keyed member).value in
      omega (arith, lower, first, second))

-- the keys of a split differ
module _ (system : System) (weighing : Weighing) (starts : List (ℕ × ℕ)) (explored : Explored) (source : IsExploredFrom system weighing starts explored)
    (rows : List (List Price)) (solved : IsSolvedFrom explored rows) (key : Key) (key_is : IsKey rows key) (signed : List SignedKey) where
  split-apart : choice_at weighing system (listed_at explored.pairs rows) (need_at explored.pairs rows key)
      ≡ Some (by_split (map (clause_at explored.pairs rows) signed))
      → StandOnce (keys_of_clauses signed)
  split-apart choice i j other here there =
      let (one, first, same) = stands-map_cases (λ (clause : SignedKey). clause.key) signed i other here in
      let (two, second, also) = stands-map_cases (λ (clause : SignedKey). clause.key) signed j other there in
      split-once weighing system (listed_at explored.pairs rows) (need_at explored.pairs rows key) (map (clause_at explored.pairs rows) signed)
      (holds-at (IsPairWithin system.states) explored.pairs key.pair (pair_of explored.pairs key.pair) source.within
      (key-stands system weighing starts explored source rows solved key key_is)).set.rises
      choice i j (clause_at explored.pairs rows one) (clause_at explored.pairs rows two)
      (stands-map (clause_at explored.pairs rows) signed i one first) (stands-map (clause_at explored.pairs rows) signed j two second)
      (ap (λ (z : Key). pair_of explored.pairs z.pair) (same ∙ sym also))

  pub taken-apart : (chosen : Chosen) → choice_at weighing system (listed_at explored.pairs rows) (need_at explored.pairs rows key)
      ≡ Some (kept_choice system explored.pairs rows signed chosen) → StandOnce (keys_taken signed chosen)
  taken-apart (Observed seen) choice i j other here there =
      let first : i < 1 = stands-below (seen.next ∷ []) i other here in
      let second : j < 1 = stands-below (seen.next ∷ []) j other there in
      omega arith
  taken-apart Split choice i j other here there = split-apart choice i j other here there

  -- the node that is written is that of the choice
  pub node-kept : (keys : List Key) → All (IsKey rows) keys → (chosen : Chosen) → All (IsKey rows) (keys_taken signed chosen) → (node : SheetNode)
      → IsKeptNode system keys signed chosen node
      → IsNodeOf (needs_at explored.pairs rows keys) (kept_choice system explored.pairs rows signed chosen) node
  node-kept keys keyed (Observed seen) taken_keyed node (next, there, is) = (next, stands-map (need_at explored.pairs rows) keys next seen.next there, is)
  node-kept keys keyed Split taken_keyed node (clauses, rise, is, exact) = (
    clauses,
    rise,
    is,
    λ clause. (
      (λ member.
          let (one, inside, (sign, stands)) = (exact clause).0 member in (
            clause_at explored.pairs rows one,
            Contains-map (clause_at explored.pairs rows) signed one inside,
            (sign, stands-map (need_at explored.pairs rows) keys clause.node one.key stands),
          )),
      (λ (wanted, inside, (sign, stands)).
          let (one, among, same) = Contains-map_cases (clause_at explored.pairs rows) signed wanted inside in
          let (other, there, also) = stands-map_cases (need_at explored.pairs rows) keys clause.node wanted.need stands in
          let is_key = All-contains (IsKey rows) (keys_of_clauses signed) one.key taken_keyed (Contains-map (λ (z : SignedKey). z.key) signed one among) in
          let equal : other ≡ one.key = need-one system weighing starts explored source rows solved other one.key
          (holds-at (IsKey rows) keys clause.node other keyed there) is_key (also ∙ sym (ap (λ (z : ClauseNeed). z.need) same)) in
          (exact clause).1 (one, among, (sign ∙ sym (ap (λ (z : ClauseNeed). z.positive) same), subst (StandsAt keys clause.node) equal there))),
    ),
  )

-- with one node more the nodes of one need more are there
pub nodes-more : (weighing : Weighing) (system : System) (table : Table) (needs : List Need) (n : ℕ) (nodes more : List SheetNode) (node : SheetNode) (x : Need)
    (choice : Choice)
    → AreNodesOf weighing system table needs n nodes → more ≡ nodes ++ node ∷ [] → StandsAt needs n x → choice_at weighing system table x ≡ Some choice
    → IsNodeOf needs choice node → AreNodesOf weighing system table needs (n + 1) more
nodes-more weighing system table needs n nodes more node x choice before longer here is made = record {
  count = ap length longer ∙ length_push nodes node ∙ ap (λ k. k + 1) before.count;
  chosen = λ k y other stands there. elim (stands-cases nodes node k other (subst (λ l. StandsAt l k other) longer there)) [
    | inl old ↦ before.chosen k y other stands old
    | inr (last, same) ↦
        let at : k ≡ n = last ∙ before.count in
        let one : x ≡ y = stands-one needs n x y here (subst (λ m. StandsAt needs m y) at stands) in
        (choice, ap (choice_at weighing system table) (sym one) ∙ is, subst (IsNodeOf needs choice) same made)
  ];
}
