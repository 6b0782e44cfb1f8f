-- Lists in which each of some members was put last unless it stood there.
use Rattle.std.proofs.Common.{ℕ, zero, suc, ◌<◌, ◌≤◌, ◌≡◌, ◌⊎◌, inl, inr, List, [], ◌∷◌, ◌++◌, length, Some, refl, sym, ap, ◌∙◌, subst, arith, length-append, append_assoc, append-nil, Bool, true, false, cond, ◌||◌, All}
use Rattle.std.specs.List.{list_any}
use Rattle.std.proofs.lemmas.Bool.{true≢false}
use Rattle.std.proofs.lemmas.List.Elements.{All-push}
use Rattle.spectro_game.specs.Reached.{StandsAt, StandsIn}
use Rattle.spectro_theory.specs.Reaching.{StandOnce, with_all, with_last}
use Rattle.spectro_theory.proofs.Places.{stands-below, stands-cases, stands-last, stands-left, stands-one}
use Rattle.spectro_theory.proofs.Growing.{once-new}

-- ---- for each test
pub with_all-one : {X : Type 0} (same : X → X → Bool) (xs : List X) (y : X) → with_all same xs (y ∷ []) ≡ with_last same xs y
unfolding with_all
with_all-one same xs y = refl

pub with_last-known : {X : Type 0} (same : X → X → Bool) (xs : List X) (y : X) → list_any (same y) xs ≡ true → with_last same xs y ≡ xs
unfolding with_last
with_last-known same xs y found = ap (λ b. cond b xs (xs ++ y ∷ [])) found

pub with_last-new : {X : Type 0} (same : X → X → Bool) (xs : List X) (y : X) → list_any (same y) xs ≡ false → with_last same xs y ≡ xs ++ y ∷ []
unfolding with_last
with_last-new same xs y none = ap (λ b. cond b xs (xs ++ y ∷ [])) none

-- what holds of each member and of y holds of each with y put last
pub All-with_last : {X : Type 0} (P : X → Type 0) (same : X → X → Bool) (xs : List X) (y : X) → All P xs → P y → All P (with_last same xs y)
unfolding with_last
All-with_last P same xs y all such = go (list_any (same y) xs)
  where
    go : (b : Bool) → All P (cond b xs (xs ++ y ∷ []))
    go true = all
    go false = All-push P xs y all such

pub with_all-append : {X : Type 0} (same : X → X → Bool) (xs ys zs : List X) → with_all same xs (ys ++ zs) ≡ with_all same (with_all same xs ys) zs
unfolding with_all
with_all-append same xs [] zs = refl
with_all-append same xs (y ∷ ys) zs = with_all-append same (with_last same xs y) ys zs

-- the list only grows at its end
pub with_all-grows : {X : Type 0} (same : X → X → Bool) (ys xs : List X) → (rest : List X) × (with_all same xs ys ≡ xs ++ rest)
unfolding with_all with_last
with_all-grows same [] xs = ([], sym (append-nil xs))
with_all-grows {X} same (y ∷ ys) xs = go (list_any (same y) xs) (with_all-grows same ys)
  where
    go : (b : Bool) → ((l : List X) → (rest : List X) × (with_all same l ys ≡ l ++ rest))
        → (rest : List X) × (with_all same (cond b xs (xs ++ y ∷ [])) ys ≡ xs ++ rest)
    go true r = r xs
    go false r = let s = r (xs ++ y ∷ []) in (y ∷ s.0, s.1 ∙ append_assoc xs (y ∷ []) s.0)

pub length-with_all : {X : Type 0} (same : X → X → Bool) (ys xs : List X) → length xs ≤ length (with_all same xs ys)
length-with_all same ys xs = let grown = with_all-grows same ys xs in omega (arith, ap length grown.1, length-append xs grown.0)

-- ---- for a test of equality
module _ {X : Type 0} (same : X → X → Bool) (same-true : (x y : X) → same x y ≡ true → x ≡ y) (same-refl : (x : X) → same x x ≡ true) where
  pub any-stands : (y : X) (xs : List X) → list_any (same y) xs ≡ true → StandsIn xs y
  any-stands y [] found = cc
  any-stands y (x ∷ xs) found = go (same y x) refl (any-stands y xs)
    where
      go : (b : Bool) → same y x ≡ b → (list_any (same y) xs ≡ true → StandsIn xs y) → StandsIn (x ∷ xs) y
      go true p r = (zero, ap Some (sym (same-true y x p)))
      go false p r = let q : list_any (same y) xs ≡ true = subst (λ b. (b || list_any (same y) xs) ≡ true) p found in let s = r q in (suc s.0, s.1)

  pub stands-any : (y : X) (xs : List X) (i : ℕ) → StandsAt xs i y → list_any (same y) xs ≡ true
  stands-any y [] i here = cc
  stands-any y (x ∷ xs) zero here =
      let e : x ≡ y = stands-one (x ∷ xs) zero x y refl here in
      let z : same y x ≡ true = subst (λ u. same y u ≡ true) (sym e) (same-refl y) in
      subst (λ b. (b || list_any (same y) xs) ≡ true) (sym z) refl
  stands-any y (x ∷ xs) (suc i) here = go (same y x) (stands-any y xs i here)
    where
      go : (b : Bool) → list_any (same y) xs ≡ true → (b || list_any (same y) xs) ≡ true
      go true e = refl
      go false e = e

  -- two cases: y stands there, and the list stays; or it does not, and goes last
  pub with_last-cases : (P : List X → Type 0) (xs : List X) (y : X) → (StandsIn xs y → P xs) → ((StandsIn xs y → ⊥) → P (xs ++ y ∷ []))
      → P (with_last same xs y)
  unfolding with_last
  with_last-cases P xs y known new = go (list_any (same y) xs) refl
    where
      go : (b : Bool) → list_any (same y) xs ≡ b → P (cond b xs (xs ++ y ∷ []))
      go true e = known (any-stands y xs e)
      go false e = new (λ s. true≢false (sym (stands-any y xs s.0 s.1) ∙ e))

  pub stands-with_last : (xs : List X) (y : X) (k : ℕ) (x : X) → StandsAt xs k x → StandsAt (with_last same xs y) k x
  stands-with_last xs y k x here = with_last-cases (λ l. StandsAt l k x) xs y (λ known. here) (λ new. stands-left xs (y ∷ []) k x here)

  pub once-with_last : (xs : List X) (y : X) → StandOnce xs → StandOnce (with_last same xs y)
  once-with_last xs y once = with_last-cases StandOnce xs y (λ known. once) (λ new. once-new xs y once new)

  pub last-with_last : (xs : List X) (y : X) → StandsIn (with_last same xs y) y
  last-with_last xs y = with_last-cases (λ l. StandsIn l y) xs y (λ known. known) (λ new. (length xs, stands-last xs y []))

  pub cases-with_last : (xs : List X) (y x : X) → StandsIn (with_last same xs y) x → StandsIn xs x ⊎ (y ≡ x)
  cases-with_last xs y x = with_last-cases (λ l. StandsIn l x → StandsIn xs x ⊎ (y ≡ x)) xs y (λ known s. inl s)
      (λ new (i, here). elim (stands-cases xs y i x here) [ inl old ↦ inl (i, old) | inr last ↦ inr last.1 ])

  -- no member stands twice
  pub once-with_all : (ys xs : List X) → StandOnce xs → StandOnce (with_all same xs ys)
  unfolding with_all
  once-with_all [] xs once = once
  once-with_all (y ∷ ys) xs once = once-with_all ys (with_last same xs y) (once-with_last xs y once)

  -- old members keep their places
  pub stands-with_all : (ys xs : List X) (k : ℕ) (x : X) → StandsAt xs k x → StandsAt (with_all same xs ys) k x
  unfolding with_all
  stands-with_all [] xs k x here = here
  stands-with_all (y ∷ ys) xs k x here = stands-with_all ys (with_last same xs y) k x (stands-with_last xs y k x here)

  -- what was put last stands there
  pub added-with_all : (ys xs : List X) (x : X) → StandsIn ys x → StandsIn (with_all same xs ys) x
  unfolding with_all
  added-with_all [] xs x (i, here) = cc
  added-with_all (y ∷ ys) xs x (zero, here) =
      let e : y ≡ x = stands-one (y ∷ ys) zero y x refl here in
      let s = last-with_last xs y in
      subst (StandsIn (with_all same (with_last same xs y) ys)) e (s.0, stands-with_all ys (with_last same xs y) s.0 y s.1)
  added-with_all (y ∷ ys) xs x (suc i, here) = added-with_all ys (with_last same xs y) x (i, here)

  -- a member is an old one, or was put last
  pub cases-with_all : (ys xs : List X) (x : X) → StandsIn (with_all same xs ys) x → StandsIn xs x ⊎ StandsIn ys x
  unfolding with_all
  cases-with_all [] xs x member = inl member
  cases-with_all (y ∷ ys) xs x member = elim (cases-with_all ys (with_last same xs y) x member) [
    | inl s ↦ elim (cases-with_last xs y x s) [ inl old ↦ inl old | inr e ↦ inr (zero, ap Some e) ]
    | inr s ↦ inr (suc s.0, s.1)
  ]

  -- where none stands twice, each is put last
  pub with_all-distinct : (ys xs : List X) → StandOnce (xs ++ ys) → with_all same xs ys ≡ xs ++ ys
  unfolding with_all
  with_all-distinct [] xs once = sym (append-nil xs)
  with_all-distinct (y ∷ ys) xs once =
      let next : xs ++ y ∷ ys ≡ (xs ++ y ∷ []) ++ ys = sym (append_assoc xs (y ∷ []) ys) in
      ap (λ l. with_all same l ys) (with_last-cases (λ l. l ≡ xs ++ y ∷ []) xs y (λ known. absurd (new known)) (λ apart. refl))
      ∙ with_all-distinct ys (xs ++ y ∷ []) (subst StandOnce next once) ∙ sym next
    where
      new : StandsIn xs y → ⊥
      new (i, here) =
          let e : i ≡ length xs = once i (length xs) y (stands-left xs (y ∷ ys) i y here) (stands-last xs y ys) in
          let below : i < length xs = stands-below xs i y here in
          omega arith
