-- How many rounds a win takes: from as many as there are pairs on, a generation covers what the next one covers.
-- What one listing affords another one affords too, or it lacks a price at a pair that the backward step looks at.
-- So a win that takes k + 1 rounds leads along k + 1 distinct pairs.
use Rattle.std.proofs.Common.{ℕ, zero, suc, ◌+◌, ◌-◌, ◌≤◌, ◌≡◌, ◌≢◌, ◌⊎◌, inl, inr, List, [], ◌∷◌, length, refl, sym, subst, Contains, arith}
use Rattle.spectro_spec.specs.System.{System, post}
use Rattle.spectro_spec.specs.Weighing.{Weighing, weight_of}
use Rattle.spectro_spec.specs.Price.{Price, IsAtMost}
use Rattle.spectro_spec.specs.LeastPrices.{Covers}
use Rattle.spectro_spec.proofs.Members.{Contains-first, Contains-later, Contains-cases, Contains-none}
use Rattle.spectro_game.specs.Update.{inverse, observe, to_deepest, to_other, to_positive, to_negative}
use Rattle.spectro_game.specs.Divisions.{IsDivided}
use Rattle.spectro_game.specs.Pairs.{Pair}
use Rattle.spectro_game.specs.BackwardStep.{Listing, ListsAtMost, AffordsClause, Affords}
use Rattle.spectro_game.specs.Generations.{Table, members_of}
use Rattle.spectro_game.specs.MinimalElements.{some_covers}
use Rattle.spectro_theory.proofs.PriceOrder.{IsAtMost-refl, IsAtMost-trans, inverse-monotone}
use Rattle.spectro_theory.proofs.Divided.{divided_at, Contains-right}
use Rattle.spectro_theory.proofs.Closures.{IsClosedByCases}
use Rattle.spectro_theory.proofs.MinimalElements.{by_test, some_covers-Decides}
use Rattle.spectro_theory.proofs.GenerationTables.{AreGenerations}

-- the second listing lacks, at a known pair, a price of at most e that the first one has
pub record Lacks (known : ℕ → List ℕ → Type 0) (listing other : Listing) (e : Price) : Type 0 where
  pub pair : Pair
  pub lacked : Price
  pub is_known : known pair.state pair.set
  pub below : IsAtMost lacked e
  pub listed : listing pair.state pair.set lacked
  pub not_listed : ¬ ListsAtMost other pair.state pair.set lacked

module _ (weighing : Weighing) (system : System) (known : ℕ → List ℕ → Type 0) (closed : IsClosedByCases system known)
    (listing other : Listing) (decided : (p : ℕ) (qs : List ℕ) (e : Price) → Dec (ListsAtMost other p qs e)) where
  -- one listed price is found, or lacked
  price_or : (p : ℕ) (qs : List ℕ) (f e : Price) → known p qs → IsAtMost f e → listing p qs f → ListsAtMost other p qs f ⊎ Lacks known listing other e
  price_or p qs f e k below listed = go (decided p qs f)
    where
      go : Dec (ListsAtMost other p qs f) → ListsAtMost other p qs f ⊎ Lacks known listing other e
      go (yes h) = inl h
      go (no n) = inr (record { pair = record { state = p; set = qs }; lacked = f; is_known = k; below = below; listed = listed; not_listed = n })

  clause_or : (p q : ℕ) (qs : List ℕ) (b e : Price) → known p qs → IsAtMost b e → Contains qs q
      → AffordsClause listing p q b → AffordsClause other p q b ⊎ Lacks known listing other e
  clause_or p q qs b e k below member (inl (f, listed, l)) =
      let one = divided_at qs q member in
      elim (price_or p (q ∷ []) f e (closed.subset p qs (q ∷ []) one.0 k (λ z. cc) one.1) (omega arith) listed) [
        | inl (g, h, m) ↦
            let low = inverse-monotone to_other (inverse to_positive g) (inverse to_positive f) (inverse-monotone to_positive g f m) in
            inl (inl (g, h, IsAtMost-trans low l))
        | inr lacks ↦ inr lacks
      ]
  clause_or p q qs b e k below member (inr (apart, (f, listed, l))) =
      elim (price_or q (p ∷ []) f e (closed.swapped p qs q k member apart) (omega arith) listed) [
        | inl (g, h, m) ↦
            let low = inverse-monotone to_other (inverse to_negative g) (inverse to_negative f) (inverse-monotone to_negative g f m) in
            inl (inr (apart, (g, h, IsAtMost-trans low l)))
        | inr lacks ↦ inr lacks
      ]

  right_or : (p : ℕ) (qs right : List ℕ) (b e : Price) → known p qs → IsAtMost b e → ((q : ℕ) → Contains right q → Contains qs q)
      → ((q : ℕ) → Contains right q → AffordsClause listing p q b) → ((q : ℕ) → Contains right q → AffordsClause other p q b) ⊎ Lacks known listing other e
  right_or p qs [] b e k below within clauses = inl (λ q member. absurd (Contains-none q member))
  right_or p qs (x ∷ right) b e k below within clauses =
      go (clause_or p x qs b e k below (within x (Contains-first x right)) (clauses x (Contains-first x right)))
      (right_or p qs right b e k below (λ q h. within q (Contains-later x right q h)) (λ q h. clauses q (Contains-later x right q h)))
    where
      go : AffordsClause other p x b ⊎ Lacks known listing other e → ((q : ℕ) → Contains right q → AffordsClause other p q b) ⊎ Lacks known listing other e
          → ((q : ℕ) → Contains (x ∷ right) q → AffordsClause other p q b) ⊎ Lacks known listing other e
      go (inr lacks) rest = inr lacks
      go (inl here) (inr lacks) = inr lacks
      go (inl here) (inl rest) = inl
          (λ q member. elim (Contains-cases x right q member) [ inl z ↦ subst (λ y. AffordsClause other p y b) z here | inr h ↦ rest q h ])

  left_or : (p : ℕ) (qs left right : List ℕ) (b e : Price) → known p qs → IsAtMost b e → IsDivided qs left right
      → (left ≢ [] → (f : Price) × listing p left f × IsAtMost (inverse to_deepest f) b)
      → (left ≢ [] → (f : Price) × other p left f × IsAtMost (inverse to_deepest f) b) ⊎ Lacks known listing other e
  left_or p qs [] right b e k below divided clause = inl (λ n. absurd (n refl))
  left_or p qs (x ∷ left) right b e k below divided clause = go (clause (λ z. cc))
    where
      go : (f : Price) × listing p (x ∷ left) f × IsAtMost (inverse to_deepest f) b
          → ((x ∷ left) ≢ [] → (f : Price) × other p (x ∷ left) f × IsAtMost (inverse to_deepest f) b) ⊎ Lacks known listing other e
      go (f, listed, l) = elim (price_or p (x ∷ left) f e (closed.subset p qs (x ∷ left) right k (λ z. cc) divided) (omega arith) listed) [
        | inl (g, h, m) ↦ inl (λ n. (g, h, IsAtMost-trans (inverse-monotone to_deepest g f m) l))
        | inr lacks ↦ inr lacks
      ]

  -- what is afforded over the first listing is afforded over the second, or that one lacks a price
  affords_or : (p : ℕ) (qs : List ℕ) (e : Price) → known p qs → Affords weighing system listing p qs e
      → Affords weighing system other p qs e ⊎ Lacks known listing other e
  affords_or p qs e k (inl (label, t, step, (f, listed, l))) =
      elim (price_or t (post system qs label) f e (closed.observed p qs label t k step) (omega arith) listed) [
        | inl (g, h, m) ↦ inl (inl (label, t, step, (g, h, IsAtMost-trans (inverse-monotone (observe (weight_of weighing label)) g f m) l)))
        | inr lacks ↦ inr lacks
      ]
  affords_or p qs e k (inr (b, (left, right, divided, clause, clauses), l)) =
      go (left_or p qs left right b e k (omega arith) divided clause) (right_or p qs right b e k (omega arith) (Contains-right divided) clauses)
    where
      go : (left ≢ [] → (f : Price) × other p left f × IsAtMost (inverse to_deepest f) b) ⊎ Lacks known listing other e
          → ((q : ℕ) → Contains right q → AffordsClause other p q b) ⊎ Lacks known listing other e
          → Affords weighing system other p qs e ⊎ Lacks known listing other e
      go (inr lacks) rest = inr lacks
      go (inl h) (inr lacks) = inr lacks
      go (inl h) (inl rest) = inl (inr (b, (left, right, divided, h, rest), l))

-- no member stands twice
abbrev pub AreDistinct : {X : Type 0} → List X → Type 0
AreDistinct [] = Unit {0}
AreDistinct (x ∷ xs) = ¬ Contains xs x × AreDistinct xs

without : {X : Type 0} (ys : List X) (x : X) → Contains ys x
    → (zs : List X) × (length ys ≡ suc (length zs)) × ((y : X) → Contains ys y → (x ≡ y) ⊎ Contains zs y)
without [] x member = absurd (Contains-none x member)
without (y ∷ ys) x member = go (Contains-cases y ys x member) (without ys x)
  where
    go : (y ≡ x) ⊎ Contains ys x → (Contains ys x → (zs : List _) × (length ys ≡ suc (length zs)) × ((z : _) → Contains ys z → (x ≡ z) ⊎ Contains zs z))
        → (zs : List _) × (length (y ∷ ys) ≡ suc (length zs)) × ((z : _) → Contains (y ∷ ys) z → (x ≡ z) ⊎ Contains zs z)
    go (inl e) rest = (ys, refl, λ z k. elim (Contains-cases y ys z k) [ inl f ↦ inl (cc) | inr m ↦ inr m ])
    go (inr h) rest =
        let found = rest h in (
          y ∷ found.0,
          omega (arith, found.1),
          λ z m. elim (Contains-cases y ys z m) [
            | inl f ↦ inr (0, omega arith, f)
            | inr n ↦ elim (found.2 z n) [ inl f ↦ inl f | inr o ↦ inr (Contains-later y found.0 z o) ]
          ],
        )

-- distinct members of a list are no more than its length
pigeonhole : {X : Type 0} (xs ys : List X) → AreDistinct xs → ((x : X) → Contains xs x → Contains ys x) → length xs ≤ length ys
pigeonhole [] ys distinct within = omega arith
pigeonhole (x ∷ xs) ys distinct within =
    let rest = without ys x (within x (Contains-first x xs)) in
    let below : length xs ≤ length rest.0 = pigeonhole xs rest.0 distinct.1 (λ y member. elim (rest.2 y (within y (Contains-later x xs y member))) [
      | inl e ↦ absurd (distinct.0 (subst (λ z. Contains xs z) (sym e) member))
      | inr h ↦ h
    ]) in
    omega (arith, rest.1)

decide_covers : (es : List Price) (e : Price) → Dec (Covers es e)
decide_covers es e = by_test (λ covered. Dec (Covers es e)) (some_covers es e) (some_covers-Decides es e) (λ h. yes h) (λ n. no n)

Covers-raised : (es : List Price) (e f : Price) → IsAtMost e f → Covers es e → Covers es f
Covers-raised es e f below (g, member, l) = (g, member, IsAtMost-trans l below)

-- all pairs
abbrev any_pair : ℕ → List ℕ → Type 0
any_pair p qs = Unit {0}

any_pair-closed : (system : System) → IsClosedByCases system any_pair
any_pair-closed system = record { observed = λ p qs label t k step. tt; subset = λ p qs left right k n d. tt; swapped = λ p qs q k member apart. tt }

module _ (weighing : Weighing) (system : System) (tables : ℕ → Table) (generations : AreGenerations weighing system tables) where
  -- what table j affords table k affords too, or table k lacks a price
  table_affords_or : (known : ℕ → List ℕ → Type 0) → IsClosedByCases system known → (j k p : ℕ) (qs : List ℕ) (e : Price) → known p qs
      → Affords weighing system (members_of (tables j)) p qs e
      → Affords weighing system (members_of (tables k)) p qs e ⊎ Lacks known (members_of (tables j)) (members_of (tables k)) e
  table_affords_or known closed j k = affords_or weighing system known closed (members_of (tables j)) (members_of (tables k))
      (λ p qs e. decide_covers (tables k p qs) e)

  -- what a generation covers the next one covers
  pub grows : (k p : ℕ) (qs : List ℕ) (e : Price) → Covers (tables k p qs) e → Covers (tables (suc k) p qs) e
  grows zero p qs e (f, member, l) = absurd (generations.empty p qs f member)
  grows (suc k) p qs e covered = generations.covers (suc k) p qs e
      (go (table_affords_or any_pair (any_pair-closed system) k (suc k) p qs e tt (generations.affords k p qs e covered)) (grows k))
    where
      go : Affords weighing system (members_of (tables (suc k))) p qs e ⊎ Lacks any_pair (members_of (tables k)) (members_of (tables (suc k))) e
          → ((p : ℕ) (qs : List ℕ) (e : Price) → Covers (tables k p qs) e → Covers (tables (suc k) p qs) e)
          → Affords weighing system (members_of (tables (suc k))) p qs e
      go (inl h) rest = h
      go (inr lacks) rest = absurd
          (lacks.not_listed (rest lacks.pair.state lacks.pair.set lacks.lacked (lacks.lacked, lacks.listed, IsAtMost-refl lacks.lacked)))

  grows_by : (n k p : ℕ) (qs : List ℕ) (e : Price) → Covers (tables k p qs) e → Covers (tables (n + k) p qs) e
  grows_by zero k p qs e covered = subst (λ m. Covers (tables m p qs) e) (omega arith) covered
  grows_by (suc n) k p qs e covered = subst (λ m. Covers (tables m p qs) e) (omega arith) (grows (n + k) p qs e (grows_by n k p qs e covered))

  grows_to : (j k p : ℕ) (qs : List ℕ) (e : Price) → j ≤ k → Covers (tables j p qs) e → Covers (tables k p qs) e
  grows_to j k p qs e below covered = subst (λ m. Covers (tables m p qs) e) (omega arith) (grows_by (k - j) j p qs e covered)

  -- the win takes k + 1 rounds and no fewer
  pub record IsNew (k : ℕ) (x : Pair) (e : Price) : Type 0 where
    pub covered : Covers (tables (suc k) x.state x.set) e
    pub not_before : ¬ Covers (tables k x.state x.set) e

  -- distinct pairs of the known, as many as rounds, whose wins take fewer and fewer, at energies that never rise
  pub record IsPath (known : ℕ → List ℕ → Type 0) (k : ℕ) (e : Price) (xs : List Pair) : Type 0 where
    pub long : length xs ≡ suc k
    pub distinct : AreDistinct xs
    pub within : (x : Pair) → Contains xs x → known x.state x.set
    pub ranked : (x : Pair) → Contains xs x → (j : ℕ) × (f : Price) × (j ≤ k) × IsAtMost f e × IsNew j x f

  module _ (known : ℕ → List ℕ → Type 0) (closed : IsClosedByCases system known) where
    longer : (k : ℕ) (x : Pair) (e f : Price) (xs : List Pair) → known x.state x.set → IsNew (suc k) x e → IsAtMost f e
        → IsPath known k f xs → IsPath known (suc k) e (x ∷ xs)
    longer k x e f xs inside new below rest = record {
      long = omega (arith, rest.long);
      distinct = (
        (λ member. let rank = rest.ranked x member in
            new.not_before (grows_to (suc rank.0) (suc k) x.state x.set e (omega (arith, rank.2))
            (Covers-raised (tables (suc rank.0) x.state x.set) rank.1 e (IsAtMost-trans rank.3 below) rank.4.covered))),
        rest.distinct,
      );
      within = λ y member. elim (Contains-cases x xs y member) [ inl z ↦ subst (λ w. known w.state w.set) z inside | inr h ↦ rest.within y h ];
      ranked = λ y member. elim (Contains-cases x xs y member) [
        | inl z ↦ (suc k, e, omega arith, IsAtMost-refl e, subst (λ w. IsNew (suc k) w e) z new)
        | inr h ↦ let rank = rest.ranked y h in (rank.0, rank.1, omega (arith, rank.2), IsAtMost-trans rank.3 below, rank.4)
      ];
    }

    path : (k : ℕ) (x : Pair) (e : Price) → known x.state x.set → IsNew k x e → (xs : List Pair) × IsPath known k e xs
    path zero x e inside new = (
      x ∷ [],
      record {
        long = refl;
        distinct = ((λ member. Contains-none x member), tt);
        within = λ y member. elim (Contains-cases x [] y member) [ inl z ↦ subst (λ w. known w.state w.set) z inside | inr h ↦ absurd (Contains-none y h) ];
        ranked = λ y member. elim (Contains-cases x [] y member) [
          | inl z ↦ (0, e, omega arith, IsAtMost-refl e, subst (λ w. IsNew 0 w e) z new)
          | inr h ↦ absurd (Contains-none y h)
        ];
      },
    )
    path (suc k) x e inside new =
        go (table_affords_or known closed (suc k) k x.state x.set e inside (generations.affords (suc k) x.state x.set e new.covered)) (path k)
      where
        go : Affords weighing system (members_of (tables k)) x.state x.set e ⊎ Lacks known (members_of (tables (suc k))) (members_of (tables k)) e
            → ((y : Pair) (f : Price) → known y.state y.set → IsNew k y f → (xs : List Pair) × IsPath known k f xs)
            → (xs : List Pair) × IsPath known (suc k) e xs
        go (inl h) rest = absurd (new.not_before (generations.covers k x.state x.set e h))
        go (inr lacks) rest =
            let new_there : IsNew k lacks.pair lacks.lacked = record {
              covered =
                  (lacks.lacked, lacks.listed, IsAtMost-refl lacks.lacked);
              not_before = lacks.not_listed;
            } in
            let found = rest lacks.pair lacks.lacked lacks.is_known new_there in
            (x ∷ found.0, longer k x e lacks.lacked found.0 inside new lacks.below found.1)

    module _ (pairs : List Pair) (each : (x : Pair) → known x.state x.set → Contains pairs x) where
      -- a win takes at most as many rounds as there are pairs
      bounded : (k : ℕ) (x : Pair) (e : Price) → known x.state x.set → IsNew k x e → suc k ≤ length pairs
      bounded k x e inside new =
          let found = path k x e inside new in
          let below : length found.0 ≤ length pairs = pigeonhole found.0 pairs found.1.distinct (λ y member. each y (found.1.within y member)) in
          omega (arith, found.1.long)

      -- from then on a generation covers what the next one covers
      pub settled : (k p : ℕ) (qs : List ℕ) (e : Price) → length pairs ≤ k → known p qs → Covers (tables (suc k) p qs) e → Covers (tables k p qs) e
      settled k p qs e late inside covered = go (decide_covers (tables k p qs) e)
        where
          go : Dec (Covers (tables k p qs) e) → Covers (tables k p qs) e
          go (yes h) = h
          go (no n) = absurd (let b = bounded k (record { state = p; set = qs }) e inside (record { covered = covered; not_before = n }) in omega arith)
