-- What the clauses of one member cost, over the lists of an arena's pairs.
use Rattle.std.proofs.Common.{ℕ, ◌≡◌, ◌≢◌, ◌<◌, ◌≤◌, ◌+◌, ◌^◌, inl, inr, List, [], ◌∷◌, All, length, get_or, sym, ap, subst, ◌∙◌, arith, Some, None}
use Rattle.std.specs.Prelude.{◌↔◌}
use Rattle.std.proofs.lemmas.List.Elements.{All-get_or, All-contains}
use Rattle.spectro_spec.specs.System.{System}
use Rattle.spectro_spec.specs.Weighing.{Weighing}
use Rattle.spectro_spec.specs.Price.{Price}
use Rattle.spectro_spec.proofs.Members.{Contains-none}
use Rattle.spectro_game.specs.Update.{to_negative, to_positive}
use Rattle.spectro_game.specs.Pairs.{Pair}
use Rattle.spectro_game.specs.Reached.{StandsAt}
use Rattle.spectro_game.specs.Generations.{Table}
use Rattle.spectro_game.specs.Rows.{listed_at}
use Rattle.spectro_theory.proofs.Masks.{division_at}
use Rattle.spectro_theory.proofs.Places.{stands-below, stands-one, stands-some}
use Rattle.spectro_pairs.specs.Arenas.{IsSubset, IsSwap, set_at}
use Rattle.spectro_pairs.specs.Explored.{Explored, IsExploredFrom}
use Rattle.spectro_solve.specs.Added.{AreOf, CanBeConjoined, IsAdded, IsClauseBy, IsClauseOf}
use Rattle.spectro_solve.specs.Clauses.{AffordsNegative, AffordsPositive, IsClauseList}
use Rattle.spectro_solve.specs.Tables.{HasRoom, HaveRoom}
use Rattle.spectro_solve.proofs.Listing.{listed-at}
use Rattle.spectro_solve.proofs.SubsetPairs.{left-alone, set-is, subset-pair}

-- ---- numbers of 32 bits
pub row-room : (rows : List (List Price)) (j : ℕ) (es : List Price) → HaveRoom rows → j < length rows → es ≡ get_or rows j es → All HasRoom es
row-room rows j es room below is = subst (All HasRoom) (sym is) (All-get_or (All HasRoom) rows j es below room)

pub row-low : (rows : List (List Price)) (j : ℕ) (es : List Price) → HaveRoom rows → j < length rows → es ≡ get_or rows j es → CanBeConjoined es
row-low rows j es room below is e member = let has = All-contains HasRoom es e (row-room rows j es room below is) member in omega (arith, has.conjunctions)

pub positive-low : (es old new : List Price) → CanBeConjoined es → AreOf (IsClauseOf to_positive es) old new → CanBeConjoined old → CanBeConjoined new
positive-low es old new low members before e member = elim (members e member) [
  | inl kept ↦ before e kept
  | inr (f, of, is) ↦ subst (λ (y : Price). y.conjunctions + 1 < 2 ^ 32) is (low f of)
]

pub negative-low : (es old new : List Price) → CanBeConjoined es → AreOf (IsClauseOf to_negative es) old new → CanBeConjoined old → CanBeConjoined new
negative-low es old new low members before e member = elim (members e member) [
  | inl kept ↦ before e kept
  | inr (f, of, is) ↦ subst (λ (y : Price). y.conjunctions + 1 < 2 ^ 32) is (low f of)
]

-- ---- clauses
-- a swap is a pair of the arena
pub swap-within : (pairs : List Pair) (k i pair : ℕ) → IsSwap pairs k i (Some pair) → pair < length pairs
swap-within pairs k i pair found =
    let to = found.other (λ own. let none : Some pair ≡ None = found.own own in cc) in
    let number : pair ≡ to.0 = (let some : Some pair ≡ Some to.0 = to.1 in cc) in
    omega (arith, number, stands-below pairs to.0 (record { state = found.q; set = found.from.state ∷ [] }) to.2)

module _ (system : System) (weighing : Weighing) (starts : List (ℕ × ℕ)) (explored : Explored) (source : IsExploredFrom system weighing starts explored)
    (rows : List (List Price)) (whole : length rows ≡ length explored.pairs) (k i : ℕ) (x : Pair) (here : StandsAt explored.pairs k x)
    (place : i < length (set_at explored.pairs k)) where
  -- the list of the state against the member alone
  pub positive-made : (mask pair : ℕ) (es : List Price) → mask ≡ 2 ^ i → mask < 2 ^ length (set_at explored.pairs k) → 1 ≤ mask
      → IsSubset explored.pairs k mask pair → pair < length explored.pairs → es ≡ get_or rows pair es
      → (e : Price) → IsClauseBy to_positive es e ↔ AffordsPositive (listed_at explored.pairs rows) x i e
  positive-made mask pair es is below some found within row e = (
    (λ made. let q = stands-some x.set i (subst (λ s. i < length s) (set-is explored.pairs k x here) place) in
        (q.0, q.1, subst (λ l. IsClauseBy to_positive l e) (sym (alone q.0 q.1)) made)),
    (λ (q, member, made). subst (λ l. IsClauseBy to_positive l e) (alone q member) made),
  )
    where
      alone : (q : ℕ) → StandsAt x.set i q → listed_at explored.pairs rows x.state (q ∷ []) ≡ es
      alone q member =
          let left = ap (λ m. (division_at m x.set).left) is ∙ left-alone x.set i q member in
          let stands = subset-pair explored.pairs k mask pair x here some (subst (λ s. mask < 2 ^ length s) (set-is explored.pairs k x here) below) found in
          ap (λ s. listed_at explored.pairs rows x.state s) (sym left)
          ∙ listed-at system weighing starts explored source rows pair (record { state = x.state; set = (division_at mask x.set).left }) es stands
          (omega (arith, within, whole)) ∙ sym row

  -- the list of the two turned round
  pub negative-made : (pair : ℕ) (es : List Price) → IsSwap explored.pairs k i (Some pair) → es ≡ get_or rows pair es
      → (e : Price) → IsClauseBy to_negative es e ↔ AffordsNegative (listed_at explored.pairs rows) x i e
  negative-made pair es found row e = (
    (λ made. (
      found.q,
      member,
      (λ own. differ (sym own)),
      subst (λ l. IsClauseBy to_negative l e) (sym (listed found.q member differ)) made,
    )),
    (λ (q, stands, ne, made). subst (λ l. IsClauseBy to_negative l e) (listed q stands (λ own. ne (sym own))) made),
  )
    where
      same : found.from ≡ x
      same = stands-one explored.pairs k found.from x found.here here

      member : StandsAt x.set i found.q
      member = subst (λ (z : Pair). StandsAt z.set i found.q) same found.member

      differ : found.q ≢ x.state
      differ own = let none : Some pair ≡ None = found.own (own ∙ ap (λ (z : Pair). z.state) (sym same)) in cc

      listed : (q : ℕ) → StandsAt x.set i q → q ≢ x.state → listed_at explored.pairs rows q (x.state ∷ []) ≡ es
      listed q stands ne =
          let is : q ≡ found.q = stands-one x.set i q found.q stands member in
          let to = found.other (λ own. differ (own ∙ ap (λ (z : Pair). z.state) same)) in
          let number : pair ≡ to.0 = (let some : Some pair ≡ Some to.0 = to.1 in cc) in
          let there : StandsAt explored.pairs pair (record { state = q; set = x.state ∷ [] }) =
          subst (λ n. StandsAt explored.pairs n (record { state = q; set = x.state ∷ [] })) (sym number)
          (subst (λ p. StandsAt explored.pairs to.0 (record { state = p; set = x.state ∷ [] })) (sym is)
          (subst (λ (z : Pair). StandsAt explored.pairs to.0 (record { state = found.q; set = z.state ∷ [] })) same to.2)) in
          listed-at system weighing starts explored source rows pair (record { state = q; set = x.state ∷ [] }) es there
          (omega (arith, stands-below explored.pairs pair (record { state = q; set = x.state ∷ [] }) there, whole)) ∙ sym row

  -- there is none for the state itself
  pub negative-none : IsSwap explored.pairs k i None → (e : Price) → ¬ AffordsNegative (listed_at explored.pairs rows) x i e
  negative-none found e (q, stands, ne, made) =
      let same : found.from ≡ x = stands-one explored.pairs k found.from x found.here here in
      let is : q ≡ found.q = stands-one x.set i q found.q stands (subst (λ (z : Pair). StandsAt z.set i found.q) same found.member) in
      let to = found.other (λ own. ne (sym (is ∙ own ∙ ap (λ (z : Pair). z.state) same))) in
      let none : None ≡ Some to.0 = to.1 in
      absurd (cc)

-- both make the list
pub clause-made : (table : Table) (x : Pair) (i : ℕ) (mid new : List Price) → IsAdded (AffordsPositive table x i) [] mid
    → IsAdded (AffordsNegative table x i) mid new
    → IsClauseList table x i new
clause-made table x i mid new first second q here e = (
  (λ covered. elim ((second e).0 covered) [
    | inl before ↦ elim ((first e).0 before) [
      | inl (f, member, low) ↦ absurd (Contains-none f member)
      | inr (p, stands, made) ↦ inl (subst (λ z. IsClauseBy to_positive (table x.state (z ∷ [])) e) (stands-one x.set i p q stands here) made)
    ]
    | inr (p, stands, ne, made) ↦
        let is : p ≡ q = stands-one x.set i p q stands here in
        inr (subst (λ z. (x.state ≢ z) × IsClauseBy to_negative (table z (x.state ∷ [])) e) is (ne, made))
  ]),
  (λ h. elim h [
    | inl made ↦ (second e).1 (inl ((first e).1 (inr (q, here, made))))
    | inr (ne, made) ↦ (second e).1 (inr (q, here, ne, made))
  ]),
)
