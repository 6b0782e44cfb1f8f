-- The clauses of a member of a set, as the arena and the table tell them.
use Rattle.std.proofs.Common.{◌≡◌, ◌≢◌, ◌∙◌, ◌⊎◌, inl, inr, ℕ, ◌<◌, ◌^◌, Bool, false, cond, List, [], ◌∷◌, length, refl, sym, ap, subst, Option, None, Some}
use Rattle.std.specs.List.{position}
use Rattle.std.specs.Option.{option_map}
use Rattle.std.proofs.Math.Pow.{pow-lt}
use Rattle.std.proofs.lemmas.Bool.{cases_eq, eq-eqb, ne_eqb}
use Rattle.std.proofs.lemmas.Nat.{pow_pos}
use Rattle.std.proofs.lemmas.Option.{none-some, same_Some}
use Rattle.spectro_spec.specs.Price.{Price}
use Rattle.spectro_game.specs.MinimalElements.{is_at_most}
use Rattle.spectro_game.specs.Pairs.{Pair}
use Rattle.spectro_game.specs.Reached.{StandsAt}
use Rattle.spectro_game.specs.Rows.{listed_at}
use Rattle.spectro_rows.specs.Rows.{row_at}
use Rattle.spectro_theory.proofs.Places.{stands-below, stands-one}
use Rattle.spectro_pairs.specs.Arenas.{IsSubset, IsSwap}
use Rattle.spectro_solve.proofs.SubsetPairs.{left-alone, subset-pair}
use Rattle.spectro_build.specs.Choices.{as_negative, first_fitting, with_sign}
use Rattle.spectro_build.specs.Chosen.{negative_clause_at}
use Rattle.spectro_build.specs.Keys.{key_at, need_at}
use Rattle.spectro_build.specs.declared.key.Key.{Key}
use Rattle.spectro_build.proofs.Fittings.{fitting-at}

-- the pair of one member
pub alone-at : (pairs : List Pair) (k i mask pair : ℕ) (x : Pair) (q : ℕ) → mask ≡ 2 ^ i → IsSubset pairs k mask pair → StandsAt pairs k x → StandsAt x.set i q
    → StandsAt pairs pair (record { state = x.state; set = q ∷ [] })
alone-at pairs k i mask pair x q is subset here member =
    let below : 2 ^ i < 2 ^ length x.set = pow-lt (stands-below x.set i q member) in
    subst (λ qs. StandsAt pairs pair (record { state = x.state; set = qs })) (left-alone x.set i q member)
    (subset-pair pairs k (2 ^ i) pair x here (pow_pos i) below (subst (λ m. IsSubset pairs k m pair) is subset))

-- the pair turned round
pub swap-cases : (pairs : List Pair) (k i : ℕ) (answer : Option ℕ) (x : Pair) (q : ℕ) → IsSwap pairs k i answer → StandsAt pairs k x → StandsAt x.set i q
    → ((q ≡ x.state) × (answer ≡ None))
    ⊎ ((q ≢ x.state) × ((pair : ℕ) × (answer ≡ Some pair) × StandsAt pairs pair (record { state = q; set = x.state ∷ [] })))
swap-cases pairs k i answer x q is here member =
    let from : is.from ≡ x = stands-one pairs k is.from x is.here here in
    let one : is.q ≡ q = stands-one x.set i is.q q (subst (λ (z : Pair). StandsAt z.set i is.q) from is.member) member in
    let state : is.from.state ≡ x.state = ap (λ (z : Pair). z.state) from in
    elim (cases_eq q x.state) [
      | inl same ↦ inl (same, is.own (one ∙ (same ∙ sym state)))
      | inr apart ↦
          let (pair, found, there) = is.other (λ own. apart (sym one ∙ (own ∙ state))) in
          inr (
            apart,
            (
              pair,
              found,
              subst (λ s. StandsAt pairs pair (record { state = q; set = s ∷ [] })) state
                  (subst (λ s. StandsAt pairs pair (record { state = s; set = is.from.state ∷ [] })) one there),
            ),
          )
    ]

-- where there is one, the member is another state than that of the pair
pub turned-at : (pairs : List Pair) (k i : ℕ) (answer : Option ℕ) (turned : ℕ) (x : Pair) (q : ℕ) → IsSwap pairs k i answer → answer ≡ Some turned
    → StandsAt pairs k x → StandsAt x.set i q → (q ≢ x.state) × StandsAt pairs turned (record { state = q; set = x.state ∷ [] })
turned-at pairs k i answer turned x q is some here member = elim (swap-cases pairs k i answer x q is here member) [
  | inl (same, none) ↦ absurd (none-some turned (sym none ∙ some))
  | inr (apart, (pair, found, there)) ↦
      (apart, subst (λ n. StandsAt pairs n (record { state = q; set = x.state ∷ [] })) (same_Some pair turned (sym found ∙ some)) there)
]

-- and where there is none it is that state
pub turned-none : (pairs : List Pair) (k i : ℕ) (answer : Option ℕ) (x : Pair) (q : ℕ) → IsSwap pairs k i answer → answer ≡ None
    → StandsAt pairs k x → StandsAt x.set i q → q ≡ x.state
turned-none pairs k i answer x q is none here member = elim (swap-cases pairs k i answer x q is here member) [
  | inl (same, lacks) ↦ same
  | inr (apart, (pair, found, there)) ↦ absurd (none-some pair (sym none ∙ found))
]

-- what fits at a pair, with a sign
pub signed-fitting : (pairs : List Pair) (rows : List (List Price)) (pair : ℕ) (y : Pair) (sign : Bool) (update : Price → Price) (e : Price)
    → StandsAt pairs pair y → listed_at pairs rows y.state y.set ≡ row_at rows pair
    → (answer : Option Key) → answer ≡ option_map (key_at rows pair) (position (λ f. is_at_most (update f) e) (row_at rows pair))
    → option_map (with_sign sign) (first_fitting (listed_at pairs rows) y update e) ≡ option_map (λ key. with_sign sign (need_at pairs rows key)) answer
signed-fitting pairs rows pair y sign update e here row answer found =
    ap (option_map (with_sign sign))
    (fitting-at pairs rows pair y update e here (stands-below pairs pair y here) row ∙ ap (option_map (need_at pairs rows)) (sym found)) ∙ by answer
  where
    by : (o : Option Key) → option_map (with_sign sign) (option_map (need_at pairs rows) o) ≡ option_map (λ key. with_sign sign (need_at pairs rows key)) o
    by None = refl
    by (Some key) = refl

-- there is no negative clause for the state itself, and for another state it is what fits
pub negative-itself : (pairs : List Pair) (rows : List (List Price)) (p q : ℕ) (e : Price) → q ≡ p → negative_clause_at (listed_at pairs rows) e p q ≡ None
negative-itself pairs rows p q e same =
    ap (λ b. cond b None (option_map (with_sign false) (first_fitting (listed_at pairs rows) (record { state = q; set = p ∷ [] }) as_negative e)))
    (eq-eqb q p same)

pub negative-other : (pairs : List Pair) (rows : List (List Price)) (p q : ℕ) (e : Price) → q ≢ p
    → negative_clause_at (listed_at pairs rows) e p q ≡ option_map (with_sign false)
    (first_fitting (listed_at pairs rows) (record { state = q; set = p ∷ [] }) as_negative e)
negative-other pairs rows p q e apart =
    ap (λ b. cond b None (option_map (with_sign false) (first_fitting (listed_at pairs rows) (record { state = q; set = p ∷ [] }) as_negative e)))
    (ne_eqb q p apart)
