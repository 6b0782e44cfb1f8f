-- The minimal elements of a list rise, are apart, are members of it, and cover each member.
-- So they cover just what the list covers, and lists that cover alike have the same ones.
use Rattle.std.proofs.Common.{ℕ, ◌≡◌, ◌≢◌, ◌≤◌, ◌<◌, ◌⊎◌, inl, inr, List, [], ◌∷◌, ◌++◌, length, refl, sym, subst, Contains, arith, Bool, true, false, cond, leb, ltb, eqb}
use Rattle.std.specs.Prelude.{◌↔◌}
use Rattle.std.specs.Bool.{Decides}
use Rattle.std.proofs.lemmas.Bool.{leb-true, le-leb, true≢false, cases_order}
use Rattle.std.proofs.lemmas.Bool.Decides.{Decides-and, Decides-or, Decides-like, Decides-eqb, Decides-ltb}
use Rattle.std.proofs.lemmas.List.Elements.{Contains-push, Contains-push_cases, Contains-append_left}
use Rattle.spectro_spec.specs.Price.{Price, IsAtMost, parts, IsFirstSmaller, ComesBefore}
use Rattle.spectro_spec.specs.LeastPrices.{Covers, Rises, AreApart}
use Rattle.spectro_spec.proofs.Members.{Contains-first, Contains-later, Contains-cases, Contains-none}
use Rattle.spectro_game.specs.MinimalElements.{is_at_most, precedes, some_covers, not_above, placed_price, inserted, minimal_elements}
use Rattle.spectro_theory.specs.LawsOfPrices.{AreMinimal}
use Rattle.spectro_theory.proofs.PriceOrder.{IsAtMost-refl, IsAtMost-trans}
use Rattle.spectro_spec.proofs.FirstSmaller.{IsFirstSmaller-trans}
use Rattle.spectro_theory.proofs.LeastLists.{same_by_cover}

-- what holds on both answers of a test holds
pub by_test : {P : Type 0} (Q : Bool → Type 0) (test : Bool) → Decides test P → (P → Q true) → (¬ P → Q false) → Q test
by_test Q true d then other = then (d.0 refl)
by_test Q false d then other = other (λ p. true≢false (sym (d.1 p)))

Decides-leb : (m n : ℕ) → Decides (leb m n) (m ≤ n)
Decides-leb m n = (leb-true m n, le-leb m n)

pub is_at_most-Decides : (e f : Price) → Decides (is_at_most e f) (IsAtMost e f)
is_at_most-Decides e f = Decides-like (is_at_most e f) (λ h. omega arith) (λ h. omega arith)
    (Decides-and _ _ (Decides-leb e.observations f.observations)
    (Decides-and _ _ (Decides-leb e.conjunctions f.conjunctions)
    (Decides-and _ _ (Decides-leb e.deepest_positive f.deepest_positive)
    (Decides-and _ _ (Decides-leb e.other_positive f.other_positive)
    (Decides-and _ _ (Decides-leb e.deepest_negative f.deepest_negative)
    (Decides-and _ _ (Decides-leb e.negations f.negations)
    (Decides-leb e.weighted_depth f.weighted_depth)))))))

pub precedes-Decides : (ns ms : List ℕ) → Decides (precedes ns ms) (IsFirstSmaller ns ms)
precedes-Decides [] ms = ((λ h. cc), λ h. absurd h)
precedes-Decides (n ∷ ns) [] = ((λ h. cc), λ h. absurd h)
precedes-Decides (n ∷ ns) (m ∷ ms) = Decides-or (ltb n m) _ (Decides-ltb n m)
    (Decides-and (eqb n m) (precedes ns ms) (Decides-eqb n m) (precedes-Decides ns ms))

pub some_covers-Decides : (es : List Price) (e : Price) → Decides (some_covers es e) (Covers es e)
some_covers-Decides [] e = ((λ h. cc), λ h. absurd (Contains-none h.0 h.1))
some_covers-Decides (f ∷ fs) e = Decides-like (some_covers (f ∷ fs) e) there back
    (Decides-or (is_at_most f e) (some_covers fs e) (is_at_most-Decides f e) (some_covers-Decides fs e))
  where
    there : IsAtMost f e ⊎ Covers fs e → Covers (f ∷ fs) e
    there (inl below) = (f, Contains-first f fs, below)
    there (inr (g, member, below)) = (g, Contains-later f fs g member, below)

    back : Covers (f ∷ fs) e → IsAtMost f e ⊎ Covers fs e
    back (g, member, below) = elim
        (Contains-cases f fs g member) [ inl same ↦ inl (subst (λ x. IsAtMost x e) (sym same) below) | inr later ↦ inr (g, later, below) ]

-- of two rows of as many numbers one comes first, or they are equal
one_first : (ns ms : List ℕ) → length ns ≡ length ms → IsFirstSmaller ns ms ⊎ ((ns ≡ ms) ⊎ IsFirstSmaller ms ns)
one_first [] [] h = inr (inl refl)
one_first [] (m ∷ ms) h = absurd (omega arith)
one_first (n ∷ ns) [] h = absurd (omega arith)
one_first (n ∷ ns) (m ∷ ms) h = go (one_first ns ms (omega arith)) (cases_order n m)
  where
    go : IsFirstSmaller ns ms ⊎ ((ns ≡ ms) ⊎ IsFirstSmaller ms ns) → (n ≡ m) ⊎ ((n < m) ⊎ (m < n))
        → IsFirstSmaller (n ∷ ns) (m ∷ ms) ⊎ (((n ∷ ns) ≡ (m ∷ ms)) ⊎ IsFirstSmaller (m ∷ ms) (n ∷ ns))
    go r (inr (inl below)) = inl (inl below)
    go r (inr (inr above)) = inr (inr (inl above))
    go (inl first) (inl same) = inl (inr (same, first))
    go (inr (inl equal)) (inl same) = inr (inl (cc))
    go (inr (inr last)) (inl same) = inr (inr (inr (sym same, last)))

pub parts-injective : (e f : Price) → parts e ≡ parts f → e ≡ f
parts-injective e f same =
    let a : e.observations ≡ f.observations = cc in
    let b : e.conjunctions ≡ f.conjunctions = cc in
    let c : e.deepest_positive ≡ f.deepest_positive = cc in
    let d : e.other_positive ≡ f.other_positive = cc in
    let g : e.deepest_negative ≡ f.deepest_negative = cc in
    let h : e.negations ≡ f.negations = cc in
    let k : e.weighted_depth ≡ f.weighted_depth = cc in
    λ i. record {
      observations = a i;
      conjunctions = b i;
      deepest_positive = c i;
      other_positive = d i;
      deepest_negative = g i;
      negations = h i;
      weighted_depth = k i;
    }

-- of two prices the second comes first where the first does not
comes_after : (e f : Price) → e ≢ f → ¬ ComesBefore e f → ComesBefore f e
comes_after e f apart after = elim (one_first (parts e) (parts f) refl) [
  | inl first ↦ absurd (after first)
  | inr rest ↦ elim rest [ inl same ↦ absurd (apart (parts-injective e f same)) | inr last ↦ last ]
]

-- what is left of a list, what is placed in it and what inserting leaves, by the answer of the test
abbrev not_above_by : Bool → Price → Price → List Price → List Price
not_above_by above e f fs = cond above (not_above e fs) (f ∷ not_above e fs)

abbrev placed_by : Bool → Price → Price → List Price → List Price
placed_by first e f fs = cond first (e ∷ f ∷ fs) (f ∷ placed_price e fs)

abbrev inserted_by : Bool → Price → List Price → List Price
inserted_by covered e es = cond covered es (placed_price e (not_above e es))

-- what is left of a list
not_above-member : (e : Price) (es : List Price) (f : Price) → Contains (not_above e es) f → Contains es f × ¬ IsAtMost e f
not_above-member e [] f member = absurd (Contains-none f member)
not_above-member e (g ∷ gs) f member = by_test (λ b. Contains (not_above_by b e g gs) f → Contains (g ∷ gs) f × ¬ IsAtMost e f)
    (is_at_most e g) (is_at_most-Decides e g)
    (λ _ k. let h = not_above-member e gs f k in (Contains-later g gs f h.0, h.1))
    (λ apart k. elim (Contains-cases g (not_above e gs) f k) [
      | inl same ↦ ((0, omega arith, same), subst (λ x. ¬ IsAtMost e x) same apart)
      | inr later ↦ let h = not_above-member e gs f later in (Contains-later g gs f h.0, h.1)
    ]) member

member-not_above : (e : Price) (es : List Price) (f : Price) → Contains es f → ¬ IsAtMost e f → Contains (not_above e es) f
member-not_above e [] f member apart = absurd (Contains-none f member)
member-not_above e (g ∷ gs) f member apart = by_test (λ b. Contains (not_above_by b e g gs) f) (is_at_most e g) (is_at_most-Decides e g)
    (λ above. elim (Contains-cases g gs f member)
    [ inl same ↦ absurd (apart (subst (λ x. IsAtMost e x) same above)) | inr later ↦ member-not_above e gs f later apart ])
    (λ _. elim (Contains-cases g gs f member)
    [ inl same ↦ (0, omega arith, same) | inr later ↦ Contains-later g (not_above e gs) f (member-not_above e gs f later apart) ])

not_above-rises : (e : Price) (es : List Price) → Rises es → Rises (not_above e es)
not_above-rises e [] rises = tt
not_above-rises e (g ∷ gs) rises = by_test (λ b. Rises (not_above_by b e g gs)) (is_at_most e g) (is_at_most-Decides e g)
    (λ _. not_above-rises e gs rises.1)
    (λ _. ((λ f member. rises.0 f (not_above-member e gs f member).0), not_above-rises e gs rises.1))

-- what is placed in a list
placed_price-member : (e : Price) (es : List Price) (f : Price) → Contains (placed_price e es) f → (e ≡ f) ⊎ Contains es f
placed_price-member e [] f member = Contains-cases e [] f member
placed_price-member e (g ∷ gs) f member = by_test (λ b. Contains (placed_by b e g gs) f → (e ≡ f) ⊎ Contains (g ∷ gs) f)
    (precedes (parts e) (parts g)) (precedes-Decides (parts e) (parts g))
    (λ _ k. Contains-cases e (g ∷ gs) f k)
    (λ _ k. elim (Contains-cases g (placed_price e gs) f k) [
      | inl same ↦ inr (0, omega arith, same)
      | inr later ↦ elim (placed_price-member e gs f later) [ inl same ↦ inl same | inr kept ↦ inr (Contains-later g gs f kept) ]
    ]) member

member-placed_price : (e : Price) (es : List Price) (f : Price) → (e ≡ f) ⊎ Contains es f → Contains (placed_price e es) f
member-placed_price e [] f (inl same) = (0, omega arith, same)
member-placed_price e [] f (inr member) = absurd (Contains-none f member)
member-placed_price e (g ∷ gs) f h = by_test (λ b. Contains (placed_by b e g gs) f) (precedes (parts e) (parts g)) (precedes-Decides (parts e) (parts g))
    (λ _. elim h [ inl same ↦ (0, omega arith, same) | inr member ↦ Contains-later e (g ∷ gs) f member ])
    (λ _. elim h [
      | inl same ↦ Contains-later g (placed_price e gs) f (member-placed_price e gs f (inl same))
      | inr member ↦ elim (Contains-cases g gs f member) [
        | inl same ↦ (0, omega arith, same)
        | inr later ↦ Contains-later g (placed_price e gs) f (member-placed_price e gs f (inr later))
      ]
    ])

placed_price-rises : (e : Price) (es : List Price) → Rises es → ¬ Contains es e → Rises (placed_price e es)
placed_price-rises e [] rises new = ((λ f member. absurd (Contains-none f member)), tt)
placed_price-rises e (g ∷ gs) rises new = by_test (λ b. Rises (placed_by b e g gs)) (precedes (parts e) (parts g)) (precedes-Decides (parts e) (parts g))
    (λ first. (
      (λ f member. elim (Contains-cases g gs f member) [
        | inl same ↦ subst (λ x. ComesBefore e x) same first
        | inr later ↦ IsFirstSmaller-trans (parts e) (parts g) (parts f) first (rises.0 f later)
      ]),
      rises,
    ))
    (λ after. (
      (λ f member. elim (placed_price-member e gs f member) [
        | inl same ↦ subst (λ x. ComesBefore g x) same (comes_after e g (λ equal. new (0, omega arith, sym equal)) after)
        | inr later ↦ rises.0 f later
      ]),
      placed_price-rises e gs rises.1 (λ member. new (Contains-later g gs e member)),
    ))

-- what inserting leaves
pub inserted-member : (e : Price) (es : List Price) (f : Price) → Contains (inserted e es) f → (e ≡ f) ⊎ Contains es f
inserted-member e es f member = by_test (λ b. Contains (inserted_by b e es) f → (e ≡ f) ⊎ Contains es f) (some_covers es e) (some_covers-Decides es e)
    (λ _ k. inr k)
    (λ _ k. elim (placed_price-member e (not_above e es) f k) [ inl same ↦ inl same | inr kept ↦ inr (not_above-member e es f kept).0 ]) member

inserted-covers : (e : Price) (es : List Price) (f : Price) → (e ≡ f) ⊎ Contains es f → Covers (inserted e es) f
inserted-covers e es f h = by_test (λ b. Covers (inserted_by b e es) f) (some_covers es e) (some_covers-Decides es e)
    (λ covered. elim h [ inl same ↦ subst (λ x. Covers es x) same covered | inr member ↦ (f, member, IsAtMost-refl f) ])
    (λ _. elim h [
      | inl same ↦ (e, member-placed_price e (not_above e es) e (inl refl), subst (λ x. IsAtMost e x) same (IsAtMost-refl e))
      | inr member ↦ by_test (λ _. Covers (placed_price e (not_above e es)) f) (is_at_most e f) (is_at_most-Decides e f)
          (λ below. (e, member-placed_price e (not_above e es) e (inl refl), below))
          (λ apart. (f, member-placed_price e (not_above e es) f (inr (member-not_above e es f member apart)), IsAtMost-refl f))
    ])

-- what it covers then: what was covered, and what e is at most
pub Covers-inserted : (e : Price) (es : List Price) (f : Price) → Covers (inserted e es) f ↔ Covers es f ⊎ IsAtMost e f
Covers-inserted e es f = (
  (λ (g, member, below). elim (inserted-member e es g member) [
    | inl same ↦ inr (subst (λ x. IsAtMost x f) (sym same) below)
    | inr old ↦ inl (g, old, below)
  ]),
  (λ h. elim h [
    | inl (g, member, below) ↦ Covers-above (inserted e es) (inserted-covers e es g (inr member)) below
    | inr below ↦ Covers-above (inserted e es) (inserted-covers e es e (inl refl)) below
  ]),
)
  where
    Covers-above : (gs : List Price) {g h : Price} → Covers gs g → IsAtMost g h → Covers gs h
    Covers-above gs (x, member, low) below = (x, member, IsAtMost-trans low below)

pub inserted-rises : (e : Price) (es : List Price) → Rises es → Rises (inserted e es)
inserted-rises e es rises = by_test (λ b. Rises (inserted_by b e es)) (some_covers es e) (some_covers-Decides es e)
    (λ _. rises)
    (λ _. placed_price-rises e (not_above e es) (not_above-rises e es rises) (λ member. (not_above-member e es e member).1 (IsAtMost-refl e)))

pub inserted-apart : (e : Price) (es : List Price) → AreApart es → AreApart (inserted e es)
inserted-apart e es apart = by_test (λ b. AreApart (inserted_by b e es)) (some_covers es e) (some_covers-Decides es e) (λ _. apart)
    (λ uncovered f g c d below. both uncovered f g below (placed_price-member e (not_above e es) f c) (placed_price-member e (not_above e es) g d))
  where
    both : ¬ Covers es e → (f g : Price) → IsAtMost f g → (e ≡ f) ⊎ Contains (not_above e es) f → (e ≡ g) ⊎ Contains (not_above e es) g → f ≡ g
    both uncovered f g below (inl same) (inl equal) = cc
    both uncovered f g below (inl same) (inr kept) = absurd ((not_above-member e es g kept).1 (subst (λ x. IsAtMost x g) (sym same) below))
    both uncovered f g below (inr kept) (inl same) = absurd (uncovered (f, (not_above-member e es f kept).0, subst (λ x. IsAtMost f x) (sym same) below))
    both uncovered f g below (inr kept) (inr other) = apart f g (not_above-member e es f kept).0 (not_above-member e es g other).0 below

-- the minimal elements
pub minimal_elements-rises : (es : List Price) → Rises (minimal_elements es)
minimal_elements-rises [] = tt
minimal_elements-rises (e ∷ es) = inserted-rises e (minimal_elements es) (minimal_elements-rises es)

pub minimal_elements-apart : (es : List Price) → AreApart (minimal_elements es)
minimal_elements-apart [] = λ e f c d below. absurd (Contains-none e c)
minimal_elements-apart (e ∷ es) = inserted-apart e (minimal_elements es) (minimal_elements-apart es)

minimal_elements-member : (es : List Price) (f : Price) → Contains (minimal_elements es) f → Contains es f
minimal_elements-member [] f member = member
minimal_elements-member (e ∷ es) f member = elim (inserted-member e (minimal_elements es) f member) [
  | inl same ↦ (0, omega arith, same)
  | inr old ↦ Contains-later e es f (minimal_elements-member es f old)
]

-- where each member of a list is covered by another, so is what the list covers
Covers-more : (es fs : List Price) → ((f : Price) → Contains es f → Covers fs f) → (e : Price) → Covers es e → Covers fs e
Covers-more es fs low e (f, member, below) = let g = low f member in (g.0, g.1, IsAtMost-trans g.2 below)

minimal_elements-covers : (es : List Price) (f : Price) → Contains es f → Covers (minimal_elements es) f
minimal_elements-covers [] f member = absurd (Contains-none f member)
minimal_elements-covers (e ∷ es) f member = elim (Contains-cases e es f member) [
  | inl same ↦ inserted-covers e (minimal_elements es) f (inl same)
  | inr later ↦ Covers-more (minimal_elements es) (inserted e (minimal_elements es)) (λ g old. inserted-covers e (minimal_elements es) g (inr old)) f
      (minimal_elements-covers es f later)
]

-- they cover just what the list covers
pub Covers-from_minimal : (es : List Price) (e : Price) → Covers (minimal_elements es) e → Covers es e
Covers-from_minimal es e (f, member, below) = (f, minimal_elements-member es f member, below)

pub Covers-minimal : (es : List Price) (e : Price) → Covers es e → Covers (minimal_elements es) e
Covers-minimal es e covered = Covers-more es (minimal_elements es) (minimal_elements-covers es) e covered

-- lists that cover alike have the same minimal elements
pub minimal_elements-by_cover : (es fs : List Price) → ((e : Price) → Covers es e → Covers fs e) → ((e : Price) → Covers fs e → Covers es e)
    → minimal_elements es ≡ minimal_elements fs
minimal_elements-by_cover es fs there back = same_by_cover (minimal_elements es) (minimal_elements fs)
    (minimal_elements-rises es) (minimal_elements-rises fs) (minimal_elements-apart es) (minimal_elements-apart fs)
    (λ e covered. Covers-minimal fs e (there e (Covers-from_minimal es e covered)))
    (λ e covered. Covers-minimal es e (back e (Covers-from_minimal fs e covered)))

-- one more at the end of a list is inserted into its minimal elements
pub minimal_elements-push : (es : List Price) (e : Price) → minimal_elements (es ++ e ∷ []) ≡ inserted e (minimal_elements es)
minimal_elements-push es e = minimal_elements-by_cover (es ++ e ∷ []) (e ∷ es)
    (λ x (f, member, below). elim
    (Contains-push_cases es e f member) [ inl old ↦ (f, Contains-later e es f old, below) | inr same ↦ (f, (0, omega arith, same), below) ])
    (λ x (f, member, below). elim (Contains-cases e es f member) [
      | inl same ↦ (e, Contains-push es e, subst (λ y. IsAtMost y x) (sym same) below)
      | inr old ↦ (f, Contains-append_left es (e ∷ []) f old, below)
    ])

pub minimal_elements-AreMinimal : (es : List Price) → AreMinimal es (minimal_elements es)
minimal_elements-AreMinimal es = record {
  rises = minimal_elements-rises es;
  apart = minimal_elements-apart es;
  members = minimal_elements-member es;
  covers = minimal_elements-covers es;
}

pub AreMinimal-one : (es fs : List Price) → AreMinimal es fs → fs ≡ minimal_elements es
AreMinimal-one es fs minimal = same_by_cover fs (minimal_elements es) minimal.rises (minimal_elements-rises es) minimal.apart (minimal_elements-apart es)
    (Covers-more fs (minimal_elements es) (λ e member. minimal_elements-covers es e (minimal.members e member)))
    (Covers-more (minimal_elements es) fs (λ e member. minimal.covers e (minimal_elements-member es e member)))
