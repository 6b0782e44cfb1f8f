-- Where the starts are of a finite list that has with each member its followers, there is a list of what is reached.
-- Members are expanded one after another. There are never more of them than the finite list has, so at last all are expanded.
use Rattle.std.proofs.Common.{ℕ, zero, suc, ◌+◌, ◌<◌, ◌≤◌, ◌≡◌, ◌≢◌, ◌⊎◌, inl, inr, List, [], ◌∷◌, length, Some, refl, ap, subst, arith, Bool, true}
use Rattle.std.proofs.lemmas.Bool.{cases_lt}
use Rattle.spectro_game.specs.Reached.{StandsAt, StandsIn, AreReached}
use Rattle.spectro_theory.specs.Reaching.{StandOnce, AreReachedTo, with_all}
use Rattle.spectro_theory.proofs.Places.{stands-below, stands-one, stands-some}
use Rattle.spectro_theory.proofs.Growing.{reached-starts}
use Rattle.spectro_theory.proofs.ReachedLists.{reached-from_end}
use Rattle.spectro_theory.proofs.PutLast.{length-with_all, cases-with_all}
use Rattle.spectro_theory.proofs.Expanding.{reached-with_all}

-- ---- members that stand once are at most as many as those of a list that has them
-- without the member at place m
removed : {X : Type 0} → ℕ → List X → List X
removed m [] = []
removed zero (x ∷ xs) = xs
removed (suc m) (x ∷ xs) = x ∷ removed m xs

length-removed : {X : Type 0} (m : ℕ) (xs : List X) → m < length xs → length xs ≡ suc (length (removed m xs))
unfolding removed
length-removed m [] below = absurd (omega arith)
length-removed zero (x ∷ xs) below = refl
length-removed (suc m) (x ∷ xs) below = ap suc (length-removed m xs (omega arith))

stands-removed : {X : Type 0} (m : ℕ) (xs : List X) (j : ℕ) (y : X) → StandsAt xs j y → j ≢ m → StandsIn (removed m xs) y
unfolding removed
stands-removed m [] j y here apart = cc
stands-removed zero (x ∷ xs) zero y here apart = absurd (apart refl)
stands-removed zero (x ∷ xs) (suc j) y here apart = (j, here)
stands-removed (suc m) (x ∷ xs) zero y here apart = (zero, here)
stands-removed (suc m) (x ∷ xs) (suc j) y here apart = let r = stands-removed m xs j y here (λ e. apart (ap suc e)) in (suc r.0, r.1)

at_most : {X : Type 0} (xs all : List X) → StandOnce xs → ((i : ℕ) (x : X) → StandsAt xs i x → StandsIn all x) → length xs ≤ length all
at_most [] all once among = omega arith
at_most (x ∷ xs) all once among = go (among zero x refl) (at_most xs)
  where
    go : StandsIn all x → ((rest : List _) → StandOnce xs → ((i : ℕ) (y : _) → StandsAt xs i y → StandsIn rest y) → length xs ≤ length rest)
        → suc (length xs) ≤ length all
    go (m, here) fewer =
        let e = length-removed m all (stands-below all m x here) in
        let rest_once : StandOnce xs = λ i j y one other. let q : suc i ≡ suc j = once (suc i) (suc j) y one other in omega arith in
        let k = fewer (removed m all) rest_once
        (λ i y at. let s = among (suc i) y at in
        stands-removed m all s.0 y s.1 (λ p.
        let same : x ≡ y = stands-one all m x y here (subst (λ n. StandsAt all n y) p s.1) in
        let q : zero ≡ suc i = once zero (suc i) y (ap Some same) at in
        omega arith)) in
        omega arith

module _ {X : Type 0} (same : X → X → Bool) (same-true : (x y : X) → same x y ≡ true → x ≡ y) (same-refl : (x : X) → same x x ≡ true)
    (follow : X → List X) (starts all : List X) (closed : (x : X) → StandsIn all x → (y : X) → StandsIn (follow x) y → StandsIn all y) where
  -- each member is of the finite list
  abbrev AreInside : List X → Type 0
  AreInside xs = (x : X) → StandsIn xs x → StandsIn all x

  inside-with_all : (xs : List X) (x : X) → StandsIn all x → AreInside xs → AreInside (with_all same xs (follow x))
  inside-with_all xs x known inside y member = elim
      (cases-with_all same same-true same-refl (follow x) xs y member) [ inl old ↦ inside y old | inr new ↦ closed x known y new ]

  at_end : (xs : List X) (k : ℕ) → k ≡ length xs → AreReachedTo follow starts xs k 0 → (ys : List X) × AreReached follow starts ys
  at_end xs k e to = (xs, reached-from_end follow starts xs (subst (λ j. AreReachedTo follow starts xs j 0) e to))

  grown : (fuel : ℕ) (xs : List X) (k : ℕ) → AreReachedTo follow starts xs k 0 → k ≤ length xs → AreInside xs → length all ≤ k + fuel
      → (ys : List X) × AreReached follow starts ys
  grown zero xs k to within inside enough =
      let few = at_most xs all to.distinct (λ i x here. inside x (i, here)) in
      at_end xs k (omega arith) to
  grown (suc fuel) xs k to within inside enough = go (cases_lt k (length xs)) (grown fuel)
    where
      go : (k < length xs) ⊎ (length xs ≤ k)
          → ((xs : List X) (k : ℕ) → AreReachedTo follow starts xs k 0 → k ≤ length xs → AreInside xs
          → length all ≤ k + fuel → (ys : List X) × AreReached follow starts ys)
          → (ys : List X) × AreReached follow starts ys
      go (inr past) on = at_end xs k (omega arith) to
      go (inl below) on =
          let x = stands-some xs k below in
          let longer = length-with_all same (follow x.0) xs in
          on (with_all same xs (follow x.0)) (suc k) (reached-with_all same same-true same-refl follow starts xs k x.0 to x.1) (omega arith)
          (inside-with_all xs x.0 (inside x.0 (k, x.1)) inside) (omega arith)

  pub some_reached : StandOnce starts → AreInside starts → (ys : List X) × AreReached follow starts ys
  some_reached once inside = grown (length all) starts 0 (reached-starts follow starts once) (omega arith) inside (omega arith)
