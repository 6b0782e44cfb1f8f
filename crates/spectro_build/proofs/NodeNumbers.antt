-- Clauses by the numbers of their nodes: they differ where their keys do, and sorted they rise.
use Rattle.std.proofs.Common.{◌≡◌, ◌≢◌, ◌∙◌, inl, inr, ℕ, suc, ◌+◌, List, [], ◌∷◌, ◌++◌, length, get_or, map, refl, sym, ap, subst, arith, true, false, is_lt, nat_eq, Contains}
use Rattle.std.specs.List.{IsDistinct}
use Rattle.std.specs.List.Sorted.{IsPermutation, IsSorted}
use Rattle.std.specs.declared.cmp.Ordering.{Ordering}
use Rattle.std.specs.declared.cmp.Ordering.TheVariants.{Less}
use Rattle.std.proofs.lemmas.Bool.{cases_eq, eq-eqb, ne_eqb, true≢false}
use Rattle.std.proofs.lemmas.Bool.Decides.{Decides-eqb}
use Rattle.std.proofs.lemmas.List.{length-map, length_push}
use Rattle.std.proofs.lemmas.List.Sorted.{Contains-permutation, IsPermutation-map, IsPermutation-sym}
use Rattle.std.proofs.lemmas.Map.Keys.{IsDistinct-IsPermutation}
use Rattle.std.proofs.lemmas.Map.Made.{IsDistinct-from_AllPairs}
use Rattle.std.proofs.lemmas.Option.{get_or_from_slice_get}
use Rattle.spectro_game.specs.Reached.{StandsAt}
use Rattle.spectro_hml.specs.declared.node.Clause.{Clause}
use Rattle.spectro_hml.specs.Clauses.{ClausesComeInOrder, ClausesRise, IsBeforeClause, clause_order}
use Rattle.spectro_theory.specs.Reaching.{StandOnce}
use Rattle.spectro_theory.proofs.Places.{Contains-stands, StandsIn-member, stands-below, stands-cases, stands-map, stands-one, stands-some}
use Rattle.spectro_build.specs.Kept.{keys_of_clauses}
use Rattle.spectro_build.specs.Written.{AreNumbered, IsNumbered}
use Rattle.spectro_build.specs.declared.clauses.SignedKey.{SignedKey}
use Rattle.spectro_build.specs.declared.key.Key.{Key}
use Rattle.spectro_build.proofs.Comparisons.{compare_clauses}
use Rattle.spectro_build.proofs.KeyOrders.{distinct-once}

-- the clauses are those of the first n keys, in their order
pub record AreNamed (keys : List Key) (signed : List SignedKey) (clauses : List Clause) (n : ℕ) : Type 0 where
  pub count : length clauses ≡ n
  pub each : (j : ℕ) (one : SignedKey) (clause : Clause) → StandsAt signed j one → StandsAt clauses j clause → IsNumbered keys one clause

pub named-more : (keys : List Key) (signed : List SignedKey) (clauses : List Clause) (n : ℕ) (one : SignedKey) (clause : Clause)
    → AreNamed keys signed clauses n
    → StandsAt signed n one → IsNumbered keys one clause → AreNamed keys signed (clauses ++ clause ∷ []) (n + 1)
named-more keys signed clauses n one clause named here numbered = record {
  count = omega (arith, length_push clauses clause, named.count);
  each = λ j other made first second. elim (stands-cases clauses clause j made second) [
    | inl old ↦ named.each j other made first old
    | inr (last, same) ↦
        let at : j ≡ n = omega (arith, last, named.count) in
        subst (IsNumbered keys other) same (subst (λ z. IsNumbered keys z clause)
        (stands-one signed n one other here (subst (λ k. StandsAt signed k other) at first)) numbered)
  ];
}

module _ (keys : List Key) (signed : List SignedKey) (clauses : List Clause) (named : AreNamed keys signed clauses (length signed)) (once : StandOnce keys)
  where
    -- just these are the clauses
    pub named-numbered : AreNumbered keys signed clauses
    named-numbered clause = (
      (λ member.
          let (j, here) = StandsIn-member clauses clause member in
          let (one, there) = stands-some signed j (let below = stands-below clauses j clause here in omega (arith, below, named.count)) in
          (one, Contains-stands signed one (j, there), named.each j one clause there here)),
      (λ (one, member, (sign, stands)).
          let (j, there) = StandsIn-member signed one member in
          let (made, here) = stands-some clauses j (let below = stands-below signed j one there in omega (arith, below, named.count)) in
          let (signs, also) = named.each j one made there here in
          let node : made.node ≡ clause.node = once made.node clause.node one.key also stands in
          let positive : made.positive ≡ clause.positive = signs ∙ sym sign in
          let same : made ≡ clause = (λ i. record { positive = positive i; node = node i }) in
          subst (Contains clauses) same (Contains-stands clauses made (j, here))),
    )

    -- and no two name one node, where the keys differ
    pub named-apart : StandOnce (keys_of_clauses signed) → (i j : ℕ) (one other : Clause) → StandsAt clauses i one → StandsAt clauses j other
        → one.node ≡ other.node → i ≡ j
    named-apart apart i j one other here there same =
        let (first, at) = stands-some signed i (let below = stands-below clauses i one here in omega (arith, below, named.count)) in
        let (second, also) = stands-some signed j (let below = stands-below clauses j other there in omega (arith, below, named.count)) in
        let left = (named.each i first one at here).1 in
        let right = (named.each j second other also there).1 in
        let key : first.key ≡ second.key = stands-one keys other.node first.key second.key (subst (λ n. StandsAt keys n first.key) same left) right in
        apart i j second.key (subst (StandsAt (keys_of_clauses signed) i) key (stands-map (λ (z : SignedKey). z.key) signed i first at))
        (stands-map (λ (z : SignedKey). z.key) signed j second also)

-- ---- clauses that name different nodes rise where they are sorted
abbrev nodes : List Clause → List ℕ
nodes clauses = map (λ (clause : Clause). clause.node) clauses

-- each two clauses at different places name different nodes
abbrev pub NameApart : List Clause → Type 0
NameApart clauses = (i j : ℕ) (one other : Clause) → StandsAt clauses i one → StandsAt clauses j other → one.node ≡ other.node → i ≡ j

distinct-from : (clauses : List Clause) → NameApart clauses → IsDistinct nat_eq (nodes clauses)
distinct-from clauses apart = IsDistinct-from_AllPairs Decides-eqb (nodes clauses) (λ i j d before below same.
    let many = length-map clauses (λ (clause : Clause). clause.node) in
    let (one, here) = stands-some clauses i (omega (arith, before, below, many)) in
    let (other, there) = stands-some clauses j (omega (arith, below, many)) in
    let first : get_or (nodes clauses) i d ≡ one.node =
    get_or_from_slice_get (nodes clauses) i one.node d (stands-map (λ (clause : Clause). clause.node) clauses i one here) in
    let second : get_or (nodes clauses) j d ≡ other.node =
    get_or_from_slice_get (nodes clauses) j other.node d (stands-map (λ (clause : Clause). clause.node) clauses j other there) in
    let twice : i ≡ j = apart i j one other here there (sym first ∙ (same ∙ second)) in
    absurd (omega (arith, twice, before)))

flips : (n m : ℕ) → nat_eq n m ≡ nat_eq m n
flips n m = elim (cases_eq n m) [
  | inl same ↦ eq-eqb n m same ∙ sym (eq-eqb m n (sym same))
  | inr differ ↦ ne_eqb n m differ ∙ sym (ne_eqb m n (λ same. differ (sym same)))
]

less-lt : (order : Ordering) → order ≡ Less → is_lt order ≡ true
less-lt order is = ap is_lt is

module _ (law : ClausesComeInOrder) where
  next-rises : (one next : Clause) → one.node ≢ next.node → is_lt (clause_order next one) ≡ false → IsBeforeClause one next
  next-rises one next apart sorted = elim (compare_clauses one next) [
    | inl before ↦ before
    | inr (inl same) ↦ absurd (apart (ap (λ (z : Clause). z.node) same))
    | inr (inr after) ↦ absurd (true≢false (sym (less-lt (clause_order next one) ((law next one).1 after)) ∙ sorted))
  ]

  rises-sorted : (clauses : List Clause) → ((k : ℕ) (one next : Clause) → StandsAt clauses k one → StandsAt clauses (suc k) next → one.node ≢ next.node)
      → IsSorted clause_order clauses → ClausesRise clauses
  rises-sorted [] apart sorted = tt
  rises-sorted (clause ∷ []) apart sorted = tt
  rises-sorted (clause ∷ next ∷ clauses) apart sorted = (
    next-rises clause next (apart 0 clause next refl refl) (sorted 0 clause (omega arith) (omega arith)),
    rises-sorted (next ∷ clauses) (λ k one other here there. apart (suc k) one other here there)
        (λ k d low below. let place : suc k + 1 ≡ suc (k + 1) = omega arith in
        subst (λ n. is_lt (clause_order (get_or (clause ∷ next ∷ clauses) n d) (get_or (next ∷ clauses) k d)) ≡ false) place
        (sorted (suc k) d (omega arith) (omega (arith, below)))),
  )

  pub sorted-rise : (clauses sorted : List Clause) → IsPermutation clauses sorted → NameApart clauses → IsSorted clause_order sorted → ClausesRise sorted
  sorted-rise clauses sorted moved apart up = rises-sorted sorted
      (λ k one next here there same.
      let differ = distinct-once nat_eq (λ n. eq-eqb n n refl) (nodes sorted) (IsDistinct-IsPermutation nat_eq flips (nodes clauses) (nodes sorted)
      (IsPermutation-map (λ (clause : Clause). clause.node) clauses sorted moved) (distinct-from clauses apart)) in
      let twice : k ≡ suc k = differ k (suc k) next.node (subst (StandsAt (nodes sorted) k) same
      (stands-map (λ (clause : Clause). clause.node) sorted k one here))
      (stands-map (λ (clause : Clause). clause.node) sorted (suc k) next there) in
      absurd (omega (arith, twice)))
      up

pub numbered-moved : (keys : List Key) (signed : List SignedKey) (clauses sorted : List Clause) → IsPermutation clauses sorted → AreNumbered keys signed clauses
    → AreNumbered keys signed sorted
numbered-moved keys signed clauses sorted moved numbered clause = (
  (λ member. (numbered clause).0 (Contains-permutation sorted clauses clause (IsPermutation-sym clauses sorted moved) member)),
  (λ one. Contains-permutation clauses sorted clause moved ((numbered clause).1 one)),
)
