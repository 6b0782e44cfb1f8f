-- Lists of energies that grow by one insertion after another.
use Rattle.std.proofs.Common.{ℕ, ◌≡◌, ◌+◌, ◌<◌, ◌⊎◌, inl, inr, List, [], ◌∷◌, length, take, get_or, Contains, sym, ap, subst, ◌∙◌, ◌≤◌, ◌^◌, max, arith}
use Rattle.std.specs.Prelude.{◌↔◌}
use Rattle.std.proofs.lemmas.List.{take_more, take_all}
use Rattle.std.proofs.lemmas.List.Elements.{Contains-push, Contains-push_cases, Contains-append_left}
use Rattle.spectro_spec.specs.Price.{Price, IsAtMost}
use Rattle.spectro_spec.specs.LeastPrices.{Covers}
use Rattle.spectro_game.specs.MinimalElements.{inserted}
use Rattle.spectro_game.specs.Sup.{sup}
use Rattle.spectro_game.specs.Update.{inverse, conjoin, to_deepest}
use Rattle.spectro_theory.proofs.PriceOrder.{IsAtMost-trans}
use Rattle.spectro_theory.proofs.MinimalElements.{Covers-inserted, inserted-member}
use Rattle.spectro_solve.specs.Added.{AreChosen, AreOf, CanBeConjoined, IsAdded, IsCoveredByBoth, IsCoveredWith, IsJoinedBy, IsJoinedWith}

-- some price of the list has the property
abbrev pub HasSome : List Price → (Price → Type 0) → Type 0
HasSome es P = (f : Price) × Contains es f × P f

-- one more of the list
pub some-more : (P : Price → Type 0) (es : List Price) (k : ℕ) (d : Price) → k < length es
    → HasSome (take (k + 1) es) P ↔ HasSome (take k es) P ⊎ P (get_or es k d)
some-more P es k d below = (
  (λ (f, member, has). elim (Contains-push_cases (take k es) (get_or es k d) f (subst (λ l. Contains l f) (take_more es k d below) member)) [
    | inl old ↦ inl (f, old, has)
    | inr same ↦ inr (subst P (sym same) has)
  ]),
  (λ h. elim h [
    | inl (f, member, has) ↦ (f, subst (λ l. Contains l f) (sym (take_more es k d below)) (Contains-append_left (take k es) (get_or es k d ∷ []) f member), has)
    | inr has ↦ (get_or es k d, subst (λ l. Contains l (get_or es k d)) (sym (take_more es k d below)) (Contains-push (take k es) (get_or es k d)), has)
  ]),
)

-- nothing is made yet
pub added-nothing : (Made : Price → Type 0) (es : List Price) → ((e : Price) → ¬ Made e) → IsAdded Made es es
added-nothing Made es none e = ((λ c. inl c), λ h. elim h [ inl c ↦ c | inr made ↦ absurd (none e made) ])

-- one insertion more
pub added-one : (Made More : Price → Type 0) (x : Price) (old mid new : List Price) → IsAdded Made old mid → new ≡ inserted x mid
    → ((e : Price) → More e ↔ Made e ⊎ IsAtMost x e) → IsAdded More old new
added-one Made More x old mid new added now more e = (
  (λ c. elim ((Covers-inserted x mid e).0 (subst (λ l. Covers l e) now c)) [
    | inl before ↦ elim ((added e).0 before) [ inl first ↦ inl first | inr made ↦ inr ((more e).1 (inl made)) ]
    | inr below ↦ inr ((more e).1 (inr below))
  ]),
  (λ h. subst (λ l. Covers l e) (sym now) ((Covers-inserted x mid e).1 (elim h [
    | inl first ↦ inl ((added e).1 (inl first))
    | inr made ↦ elim ((more e).0 made) [ inl before ↦ inl ((added e).1 (inr before)) | inr below ↦ inr below ]
  ]))),
)

-- one addition after another
pub added-then : (Made More All : Price → Type 0) (old mid new : List Price) → IsAdded Made old mid → IsAdded More mid new
    → ((e : Price) → All e ↔ Made e ⊎ More e) → IsAdded All old new
added-then Made More All old mid new first second both e = (
  (λ c. elim ((second e).0 c) [
    | inl before ↦ elim ((first e).0 before) [ inl at_first ↦ inl at_first | inr made ↦ inr ((both e).1 (inl made)) ]
    | inr made ↦ inr ((both e).1 (inr made))
  ]),
  (λ h. elim h [
    | inl at_first ↦ (second e).1 (inl ((first e).1 (inl at_first)))
    | inr all ↦ elim ((both e).0 all) [ inl made ↦ (second e).1 (inl ((first e).1 (inr made))) | inr made ↦ (second e).1 (inr made) ]
  ]),
)

-- ---- what is chosen, but for what is of no use
pub chosen-nothing : (Wanted : Price → Type 0) (made es : List Price) → ((e : Price) → ¬ Wanted e) → AreChosen Wanted made es es
chosen-nothing Wanted made es none = record { sound = λ e c. inl c; kept = λ e c. c; whole = λ e wanted. absurd (none e wanted) }

-- one insertion
pub chosen-one : (x : Price) (made old new : List Price) → new ≡ inserted x old → AreChosen (IsAtMost x) made old new
chosen-one x made old new now = record {
  sound = λ e c. (Covers-inserted x old e).0 (subst (λ l. Covers l e) now c);
  kept = λ e c. subst (λ l. Covers l e) (sym now) ((Covers-inserted x old e).1 (inl c));
  whole = λ e below. inl (subst (λ l. Covers l e) (sym now) ((Covers-inserted x old e).1 (inr below)));
}

-- none, since it is of no use
pub chosen-none : (x : Price) (made es : List Price) → Covers made (inverse conjoin x) → AreChosen (IsAtMost x) made es es
chosen-none x made es (f, member, low) = record {
  sound = λ e c. inl c;
  kept = λ e c. c;
  whole = λ e below. inr (f, member, IsAtMost-trans low (let more : IsAtMost (inverse conjoin x) (inverse conjoin e) = omega (arith, below) in more));
}

-- one choice after another
pub chosen-then : (Wanted More All : Price → Type 0) (made old mid new : List Price) → AreChosen Wanted made old mid → AreChosen More made mid new
    → ((e : Price) → All e ↔ Wanted e ⊎ More e) → AreChosen All made old new
chosen-then Wanted More All made old mid new first second both = record {
  sound = λ e c. elim (second.sound e c) [
    | inl before ↦ elim (first.sound e before) [ inl at_first ↦ inl at_first | inr wanted ↦ inr ((both e).1 (inl wanted)) ]
    | inr wanted ↦ inr ((both e).1 (inr wanted))
  ];
  kept = λ e c. second.kept e (first.kept e c);
  whole = λ e all. elim ((both e).0 all) [
    | inl wanted ↦ elim (first.whole e wanted) [ inl c ↦ inl (second.kept e c) | inr useless ↦ inr useless ]
    | inr wanted ↦ second.whole e wanted
  ];
}

-- what is below both a and f is below their sup
pub with-more : (a f e : Price) → IsAtMost (sup a f) e ↔ IsAtMost a e × IsAtMost f e
with-more a f e = ((λ below. (omega (arith, below), omega (arith, below))), λ (low, other). omega (arith, low, other))

-- ---- what F makes of one more of a list
pub added-more : (F : Price → Price) (es : List Price) (k : ℕ) (x d : Price) (old mid new : List Price) → k < length es
    → IsAdded (λ e. HasSome (take k es) (λ f. IsAtMost (F f) e)) old mid → new ≡ inserted x mid → x ≡ F d → d ≡ get_or es k d
    → IsAdded (λ e. HasSome (take (k + 1) es) (λ f. IsAtMost (F f) e)) old new
added-more F es k x d old mid new below added now is at =
    added-one (λ e. HasSome (take k es) (λ f. IsAtMost (F f) e)) (λ e. HasSome (take (k + 1) es) (λ f. IsAtMost (F f) e)) x old mid new added now
    (λ e. subst (λ y. HasSome (take (k + 1) es) (λ f. IsAtMost (F f) e) ↔ HasSome (take k es) (λ f. IsAtMost (F f) e) ⊎ IsAtMost y e) (sym (is ∙ ap F at))
    (some-more (λ f. IsAtMost (F f) e) es k d below))

-- of all of it
pub added-all : (F : Price → Price) (es : List Price) (k : ℕ) (old new : List Price) → length es ≤ k
    → IsAdded (λ e. HasSome (take k es) (λ f. IsAtMost (F f) e)) old new → IsAdded (λ e. HasSome es (λ f. IsAtMost (F f) e)) old new
added-all F es k old new whole added = subst (λ l. IsAdded (λ e. HasSome l (λ f. IsAtMost (F f) e)) old new) (take_all k es whole) added

-- a member of what is inserted into
pub of-one : (Made : Price → Type 0) (x : Price) (old mid new : List Price) → AreOf Made old mid → new ≡ inserted x mid → Made x → AreOf Made old new
of-one Made x old mid new members now made e member = elim (inserted-member x mid e (subst (λ l. Contains l e) now member)) [
  | inl same ↦ inr (subst Made same made)
  | inr before ↦ members e before
]

-- a member of a list by its place
pub Contains-item : (es : List Price) (k : ℕ) (d : Price) → k < length es → d ≡ get_or es k d → Contains es d
Contains-item es k d below at = (k, below, sym at)

-- ---- numbers of 32 bits
pub low-one : (x : Price) (old new : List Price) → new ≡ inserted x old → x.conjunctions + 1 < 2 ^ 32 → CanBeConjoined old → CanBeConjoined new
low-one x old new now low before e member = elim (inserted-member x old e (subst (λ l. Contains l e) now member)) [
  | inl same ↦ subst (λ (y : Price). y.conjunctions + 1 < 2 ^ 32) same low
  | inr kept ↦ before e kept
]

pub low-item : (es : List Price) (k : ℕ) (d : Price) → CanBeConjoined es → k < length es → d ≡ get_or es k d → d.conjunctions + 1 < 2 ^ 32
low-item es k d low below at = low d (Contains-item es k d below at)

pub low-sup : (a b x : Price) → x ≡ sup a b → a.conjunctions + 1 < 2 ^ 32 → b.conjunctions + 1 < 2 ^ 32 → x.conjunctions + 1 < 2 ^ 32
low-sup a b x is low other =
    subst (λ (y : Price). y.conjunctions + 1 < 2 ^ 32) (sym is) (let h : max a.conjunctions b.conjunctions + 1 < 2 ^ 32 = omega arith in h)

-- ---- the lists of two choices, and of a conjunction
pub both-more : (es fs : List Price) (k : ℕ) (d : Price) → k < length es → d ≡ get_or es k d → (e : Price)
    → IsCoveredByBoth (take (k + 1) es) fs e ↔ IsCoveredByBoth (take k es) fs e ⊎ IsCoveredWith d fs e
both-more es fs k d below at e = subst (λ y. IsCoveredByBoth (take (k + 1) es) fs e ↔ IsCoveredByBoth (take k es) fs e ⊎ IsCoveredWith y fs e) (sym at) (
  (λ (left, right). elim ((some-more (λ f. IsAtMost f e) es k d below).0 left) [ inl old ↦ inl (old, right) | inr new ↦ inr (new, right) ]),
  (λ h. elim h [
    | inl (left, right) ↦ ((some-more (λ f. IsAtMost f e) es k d below).1 (inl left), right)
    | inr (new, right) ↦ ((some-more (λ f. IsAtMost f e) es k d below).1 (inr new), right)
  ]),
)

pub with-item : (b x d : Price) (es : List Price) (k : ℕ) → k < length es → x ≡ sup b d → d ≡ get_or es k d → (e : Price)
    → IsCoveredWith b (take (k + 1) es) e ↔ IsCoveredWith b (take k es) e ⊎ IsAtMost x e
with-item b x d es k below is at e =
    subst (λ y. IsCoveredWith b (take (k + 1) es) e ↔ IsCoveredWith b (take k es) e ⊎ IsAtMost y e) (sym (is ∙ ap (sup b) at)) (
      (λ (low, covered). elim ((some-more (λ f. IsAtMost f e) es k d below).0 covered) [
        | inl old ↦ inl (low, old)
        | inr new ↦ inr ((with-more b (get_or es k d) e).1 (low, new))
      ]),
      (λ h. elim h [
        | inl (low, old) ↦ (low, (some-more (λ f. IsAtMost f e) es k d below).1 (inl old))
        | inr all ↦ let two = (with-more b (get_or es k d) e).0 all in (two.0, (some-more (λ f. IsAtMost f e) es k d below).1 (inr two.1))
      ]),
    )

pub joined-more : (es fs : List Price) (k : ℕ) (d : Price) → k < length es → d ≡ get_or es k d → (e : Price)
    → IsJoinedBy (take (k + 1) es) fs e ↔ IsJoinedBy (take k es) fs e ⊎ IsJoinedWith d fs e
joined-more es fs k d below at e = (
  (λ (b, covered, (f, member, low), all). elim ((some-more (λ g. IsAtMost g b) es k d below).0 covered) [
    | inl old ↦ inl (b, old, (f, member, low), all)
    | inr new ↦ inr (
      f,
      member,
      let own : IsAtMost d b = subst (λ g. IsAtMost g b) (sym at) new in
          let whole : IsAtMost (inverse conjoin (sup d (inverse to_deepest f))) e = omega (arith, own, low, all) in whole,
    )
  ]),
  (λ h. elim h [
    | inl (b, old, rest, all) ↦ (b, (some-more (λ g. IsAtMost g b) es k d below).1 (inl old), rest, all)
    | inr (f, member, all) ↦ (
      sup d (inverse to_deepest f),
      (some-more (λ g. IsAtMost g (sup d (inverse to_deepest f))) es k d below).1
          (inr (subst (λ g. IsAtMost g (sup d (inverse to_deepest f))) at (let own : IsAtMost d (sup d (inverse to_deepest f)) = omega arith in own))),
      (f, member, let own : IsAtMost (inverse to_deepest f) (sup d (inverse to_deepest f)) = omega arith in own),
      all,
    )
  ]),
)

-- the same by other words
pub added-same : (Made More : Price → Type 0) (old new : List Price) → IsAdded Made old new → ((e : Price) → Made e ↔ More e) → IsAdded More old new
added-same Made More old new added same e = (
  (λ c. elim ((added e).0 c) [ inl before ↦ inl before | inr made ↦ inr ((same e).0 made) ]),
  (λ h. elim h [ inl before ↦ (added e).1 (inl before) | inr more ↦ (added e).1 (inr ((same e).1 more)) ]),
)
