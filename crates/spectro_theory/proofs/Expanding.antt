-- All followers of a member, put last in turn, take what is reached from its place to the next one.
use Rattle.std.proofs.Common.{ℕ, suc, ◌≡◌, List, [], ◌∷◌, ◌++◌, length, refl, sym, ap, ◌∙◌, subst, arith, length-append, append_assoc, Bool, true}
use Rattle.spectro_game.specs.Reached.{StandsAt}
use Rattle.spectro_theory.specs.Reaching.{AreReachedTo, with_all, with_last}
use Rattle.spectro_theory.proofs.Places.{stands-last}
use Rattle.spectro_theory.proofs.Growing.{reached-known, reached-new, reached-next}
use Rattle.spectro_theory.proofs.PutLast.{with_last-cases, stands-with_last}

module _ {X : Type 0} (same : X → X → Bool) (same-true : (x y : X) → same x y ≡ true → x ≡ y) (same-refl : (x : X) → same x x ≡ true) (follow : X
    → List X) (starts : List X) where
  reached-with_last : (xs : List X) (k r : ℕ) (x y : X) → AreReachedTo follow starts xs k r → StandsAt xs k x → StandsAt (follow x) r y
      → AreReachedTo follow starts (with_last same xs y) k (suc r)
  reached-with_last xs k r x y to here f =
      with_last-cases same same-true same-refl (λ l. AreReachedTo follow starts l k (suc r)) xs y
      (λ known. reached-known follow starts xs k r x y to here f known)
      (λ new. reached-new follow starts xs k r x y to here f new)

  -- the rest of the followers, where some are done
  reached-with_rest : (done rest xs : List X) (k : ℕ) (x : X) → AreReachedTo follow starts xs k (length done) → StandsAt xs k x → follow x ≡ done ++ rest
      → AreReachedTo follow starts (with_all same xs rest) k (length (follow x)) × StandsAt (with_all same xs rest) k x
  unfolding with_all
  reached-with_rest done [] xs k x to here e =
      let l : length done ≡ length (follow x) = omega (arith, ap length e, length-append done []) in
      (subst (λ n. AreReachedTo follow starts xs k n) l to, here)
  reached-with_rest done (y ∷ rest) xs k x to here e =
      let f : StandsAt (follow x) (length done) y = subst (λ l. StandsAt l (length done) y) (sym e) (stands-last done y rest) in
      let next : AreReachedTo follow starts (with_last same xs y) k (suc (length done)) = reached-with_last xs k (length done) x y to here f in
      let n : suc (length done) ≡ length (done ++ y ∷ []) = omega (arith, length-append done (y ∷ [])) in
      reached-with_rest (done ++ y ∷ []) rest (with_last same xs y) k x (subst (λ m. AreReachedTo follow starts (with_last same xs y) k m) n next)
      (stands-with_last same same-true same-refl xs y k x here) (e ∙ sym (append_assoc done (y ∷ []) rest))

  pub reached-with_all : (xs : List X) (k : ℕ) (x : X) → AreReachedTo follow starts xs k 0 → StandsAt xs k x
      → AreReachedTo follow starts (with_all same xs (follow x)) (suc k) 0
  reached-with_all xs k x to here =
      let r = reached-with_rest [] (follow x) xs k x to here refl in
      reached-next follow starts (with_all same xs (follow x)) k (length (follow x)) x r.0 r.1 (omega arith)
