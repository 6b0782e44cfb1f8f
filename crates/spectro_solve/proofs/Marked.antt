-- Marks that are set one by one, and taken away.
use Rattle.std.proofs.Common.{ltb-true, ltb-false, ℕ, ◌≡◌, ◌≢◌, ◌+◌, ◌<◌, ◌⊎◌, inl, inr, ltb, List, [], ◌∷◌, ◌++◌, length, take, drop, get_or, set, replicate, Contains, Bool, true, false, cond, eqb, sym, ap, ◌∙◌, subst, arith, length-append}
use Rattle.std.specs.Prelude.{◌↔◌, sum_by}
use Rattle.std.proofs.lemmas.Bool.{both_ways, cases_Bool, false_from_ne_true}
use Rattle.std.proofs.lemmas.Bool.Decides.{Decides-eqb}
use Rattle.std.proofs.lemmas.List.{get_or-set_same, get_or-set_other, get_or-replicate, get_or_past, ext_get_or, length-set, length-replicate, take_more}
use Rattle.std.proofs.lemmas.List.Elements.{Contains-push, Contains-push_cases, Contains-append_left}
use Rattle.std.proofs.lemmas.List.Sums.{sum_by-set}
use Rattle.std.proofs.lemmas.List.Sorted.{Contains-permutation, IsPermutation-sym}
use Rattle.std.proofs.lemmas.List.Folds.{sum_by-replicate}
use Rattle.std.proofs.Math.Seq.{take-append_seam}
use Rattle.std.specs.List.Sorted.{IsPermutation}
use Rattle.spectro_spec.proofs.Members.{Contains-none}
use Rattle.spectro_theory.proofs.MinimalElements.{by_test}
use Rattle.spectro_solve.specs.Marks.{IsMarked, AreMarks}

pub marked-below : (flags : List Bool) (k : ℕ) → IsMarked flags k → k < length flags
marked-below flags k marked = below (cases_Bool (ltb k (length flags)))
  where
    below : (ltb k (length flags) ≡ true) ⊎ (ltb k (length flags) ≡ false) → k < length flags
    below (inl lt) = ltb-true k (length flags) lt
    below (inr ge) = absurd (both_ways (get_or flags k false) (get_or_past flags k false (ltb-false k (length flags) ge)) marked)

-- all of n are marked
pub all-marked : (n : ℕ) (numbers : List ℕ) → ((k : ℕ) → Contains numbers k ↔ k < n) → length numbers ≡ n → AreMarks (replicate n true) numbers
all-marked n numbers exact many = record {
  exact = λ k. (
    (λ member. get_or-replicate n k true false ((exact k).0 member)),
    (λ marked. (exact k).1 (let below = marked-below (replicate n true) k marked in omega (arith, length-replicate {A = Bool} n true))),
  );
  once = omega (arith, sum_by-replicate (λ (flag : Bool). cond flag 1 0) n true);
}

-- none is
pub none-marked : (flags : List Bool) → ((k : ℕ) → ¬ IsMarked flags k) → flags ≡ replicate (length flags) false
none-marked flags none = ext_get_or false flags (replicate (length flags) false) (sym (length-replicate (length flags) false))
    (λ k below. false_from_ne_true (get_or flags k false) (none k) ∙ sym (get_or-replicate (length flags) k false false below))

pub no-numbers : (flags : List Bool) → ((k : ℕ) → ¬ IsMarked flags k) → AreMarks flags []
no-numbers flags none = record {
  exact = λ k. ((λ member. absurd (Contains-none k member)), λ marked. absurd (none k marked));
  once = let e = ap {B = ℕ} (sum_by (λ (flag : Bool). cond flag 1 0)) (none-marked flags none) in
      omega (arith, e, sum_by-replicate (λ (flag : Bool). cond flag 1 0) (length flags) false);
}

-- one more
pub marked-more : (flags : List Bool) (j k : ℕ) → j < length flags → IsMarked (set flags j true) k ↔ IsMarked flags k ⊎ (j ≡ k)
marked-more flags j k below = by_test (λ _. IsMarked (set flags j true) k ↔ IsMarked flags k ⊎ (j ≡ k)) (eqb j k) (Decides-eqb j k)
    (λ same. ((λ _. inr same), λ _. subst (IsMarked (set flags j true)) same (get_or-set_same flags j true false below)))
    (λ apart. let stays = get_or-set_other flags j k true false (λ e. apart (sym e)) in (
      (λ marked. inl (sym stays ∙ marked)),
      λ h. elim h [ inl marked ↦ stays ∙ marked | inr same ↦ absurd (apart same) ],
    ))

pub one-more : (flags : List Bool) (numbers : List ℕ) (j : ℕ) → AreMarks flags numbers → j < length flags → get_or flags j false ≡ false
    → AreMarks (set flags j true) (numbers ++ j ∷ [])
one-more flags numbers j marks below unmarked = record {
  exact = λ k. (
    (λ member. (marked-more flags j k below).1 (elim (Contains-push_cases numbers j k member) [
      | inl old ↦ inl ((marks.exact k).0 old)
      | inr same ↦ inr same
    ])),
    (λ marked. elim ((marked-more flags j k below).0 marked) [
      | inl old ↦ Contains-append_left numbers (j ∷ []) k ((marks.exact k).1 old)
      | inr same ↦ subst (Contains (numbers ++ j ∷ [])) same (Contains-push numbers j)
    ]),
  );
  once = let before = ap {B = ℕ} (λ flag. cond flag 1 0) unmarked in
      omega (arith, before, sum_by-set (λ (flag : Bool). cond flag 1 0) flags j true false below, marks.once, length-append numbers (j ∷ []));
}

-- in another order
pub other-order : (flags : List Bool) (numbers others : List ℕ) → AreMarks flags numbers → IsPermutation numbers others → length others ≡ length numbers
    → AreMarks flags others
other-order flags numbers others marks order many = record {
  exact = λ k. (
    (λ member. (marks.exact k).0 (Contains-permutation others numbers k (IsPermutation-sym numbers others order) member)),
    (λ marked. Contains-permutation numbers others k order ((marks.exact k).1 marked)),
  );
  once = many ∙ marks.once;
}

-- one that is taken away
pub unset-more : (flags : List Bool) (j k : ℕ) → IsMarked (set flags j false) k → IsMarked flags k × (j ≢ k)
unset-more flags j k marked = by_test (λ _. IsMarked flags k × (j ≢ k)) (eqb j k) (Decides-eqb j k)
    (λ same. absurd (gone (subst (IsMarked (set flags j false)) (sym same) marked)))
    (λ apart. (sym (get_or-set_other flags j k false false (λ e. apart (sym e))) ∙ marked, apart))
  where
    gone : IsMarked (set flags j false) j → ⊥
    gone still = both_ways (get_or (set flags j false) j false)
        (get_or-set_same flags j false false (let below = marked-below (set flags j false) j still in omega (arith, length-set flags j false))) still

-- the numbers below one more
pub one-below : (numbers more : List ℕ) (k : ℕ) → ((j : ℕ) → Contains numbers j ↔ j < k) → length numbers ≡ k → more ≡ numbers ++ k ∷ []
    → ((j : ℕ) → Contains more j ↔ j < k + 1) × (length more ≡ k + 1)
one-below numbers more k exact many now = (
  (λ j. (
    (λ member. elim (Contains-push_cases numbers k j (subst (λ l. Contains l j) now member)) [
      | inl old ↦ let below = (exact j).0 old in omega arith
      | inr same ↦ omega arith
    ]),
    (λ below. subst (λ l. Contains l j) (sym now) (by_test (λ _. Contains (numbers ++ k ∷ []) j) (eqb k j) (Decides-eqb k j)
        (λ same. subst (Contains (numbers ++ k ∷ [])) same (Contains-push numbers k))
        (λ apart. Contains-append_left numbers (k ∷ []) j ((exact j).1 (omega arith))))),
  )),
  omega (arith, ap length now, length-append numbers (k ∷ [])),
)

-- one mark more, over the numbers up to one more
pub marks-on : (old flags new : List Bool) (numbers : List ℕ) (i : ℕ) → length flags ≡ length old
    → ((k : ℕ) → IsMarked flags k ↔ IsMarked old k ⊎ Contains (take i numbers) k)
    → i < length numbers → get_or numbers i 0 < length old → new ≡ set flags (get_or numbers i 0) true
    → (length new ≡ length old) × ((k : ℕ) → IsMarked new k ↔ IsMarked old k ⊎ Contains (take (i + 1) numbers) k)
marks-on old flags new numbers i same before below inside now = (
  omega (arith, ap length now, length-set flags (get_or numbers i 0) true),
  (λ k. (
    (λ marked. elim ((marked-more flags (get_or numbers i 0) k (omega arith)).0 (subst (λ l. IsMarked l k) now marked)) [
      | inl kept ↦ elim ((before k).0 kept) [ inl first ↦ inl first | inr listed ↦ inr (further k (inl listed)) ]
      | inr one ↦ inr (further k (inr one))
    ]),
    (λ h. subst (λ l. IsMarked l k) (sym now) ((marked-more flags (get_or numbers i 0) k (omega arith)).1 (elim h [
      | inl first ↦ inl ((before k).1 (inl first))
      | inr listed ↦ elim (cases k listed) [ inl earlier ↦ inl ((before k).1 (inr earlier)) | inr one ↦ inr one ]
    ]))),
  )),
)
  where
    cases : (k : ℕ) → Contains (take (i + 1) numbers) k → Contains (take i numbers) k ⊎ (get_or numbers i 0 ≡ k)
    cases k listed = Contains-push_cases (take i numbers) (get_or numbers i 0) k (subst (λ l. Contains l k) (take_more numbers i 0 below) listed)

    further : (k : ℕ) → Contains (take i numbers) k ⊎ (get_or numbers i 0 ≡ k) → Contains (take (i + 1) numbers) k
    further k h = subst (λ l. Contains l k) (sym (take_more numbers i 0 below)) (elim h [
      | inl earlier ↦ Contains-append_left (take i numbers) (get_or numbers i 0 ∷ []) k earlier
      | inr one ↦ subst (Contains (take i numbers ++ get_or numbers i 0 ∷ [])) one (Contains-push (take i numbers) (get_or numbers i 0))
    ])

-- one mark less
pub unset-on : (old flags new : List Bool) (numbers : List ℕ) (i : ℕ) → length flags ≡ length old
    → ((k : ℕ) → IsMarked flags k → IsMarked old k × (¬ Contains (take i numbers) k))
    → i < length numbers → new ≡ set flags (get_or numbers i 0) false
    → (length new ≡ length old) × ((k : ℕ) → IsMarked new k → IsMarked old k × (¬ Contains (take (i + 1) numbers) k))
unset-on old flags new numbers i same before below now = (
  omega (arith, ap length now, length-set flags (get_or numbers i 0) false),
  (λ k marked. let kept = unset-more flags (get_or numbers i 0) k (subst (λ l. IsMarked l k) now marked) in
      let first = before k kept.0 in (
        first.0,
        (λ listed. elim (Contains-push_cases (take i numbers) (get_or numbers i 0) k (subst (λ l. Contains l k) (take_more numbers i 0 below) listed)) [
          | inl earlier ↦ first.1 earlier
          | inr one ↦ kept.1 one
        ]),
      )),
)

-- what is written back to a vector of as many members
pub written-back : {X : Type 0} (new old : List X) (n : ℕ) → length new ≡ n → take n (new ++ drop (length new) old) ≡ new
written-back new old n many = subst (λ k. take k (new ++ drop (length new) old) ≡ new) many (take-append_seam new (drop (length new) old))

-- where no flag is set, none is marked
pub never-marked : (flags : List Bool) (n k : ℕ) → flags ≡ replicate n false → ¬ IsMarked flags k
never-marked flags n k none marked =
    let set = subst (λ l. IsMarked l k) none marked in
    both_ways (get_or (replicate n false) k false)
    (get_or-replicate n k false false (let below = marked-below (replicate n false) k set in omega (arith, length-replicate n false))) set
