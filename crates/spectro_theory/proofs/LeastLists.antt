-- A list of least prices is known by what it covers.
-- Rising lists with the same members are equal, and members that are apart are those of any list that covers as much.
use Rattle.std.proofs.Common.{ℕ, ◌≡◌, ◌⊎◌, inl, inr, List, [], ◌∷◌, refl, sym, subst, Contains}
use Rattle.spectro_spec.specs.System.{System}
use Rattle.spectro_spec.specs.Weighing.{Weighing}
use Rattle.spectro_spec.specs.Price.{Price, IsAtMost, parts}
use Rattle.spectro_spec.specs.Pricing.{price}
use Rattle.spectro_spec.specs.LeastPrices.{Covers, Rises, AreApart, AreLeastPrices}
use Rattle.spectro_spec.proofs.FirstSmaller.{IsFirstSmaller-irrefl, IsFirstSmaller-trans}
use Rattle.spectro_spec.proofs.Members.{Contains-first, Contains-later, Contains-cases, Contains-none}
use Rattle.spectro_game.specs.BackwardStep.{AttackerWins}
use Rattle.spectro_theory.proofs.PriceOrder.{IsAtMost-refl, IsAtMost-trans, IsAtMost-antisym}

-- the first of a rising list is no later member
not_later : (e : Price) (es : List Price) → Rises (e ∷ es) → ¬ Contains es e
not_later e es rises member = IsFirstSmaller-irrefl (parts e) (rises.0 e member)

-- two rising lists that have each other's first members begin alike
same_first : (e f : Price) (es fs : List Price) → Rises (e ∷ es) → Rises (f ∷ fs) → Contains (f ∷ fs) e → Contains (e ∷ es) f → e ≡ f
same_first e f es fs r s c d = go (Contains-cases f fs e c) (Contains-cases e es f d)
  where
    go : (f ≡ e) ⊎ Contains fs e → (e ≡ f) ⊎ Contains es f → e ≡ f
    go (inl same) k = sym same
    go (inr later) (inl same) = same
    go (inr later) (inr other) = absurd (IsFirstSmaller-irrefl (parts e) (IsFirstSmaller-trans (parts e) (parts f) (parts e) (r.0 f other) (s.0 e later)))

-- a later member stands also among the later members of the other list
same_later : (e f g : Price) (es fs : List Price) → Rises (e ∷ es) → e ≡ f → Contains es g → Contains (f ∷ fs) g → Contains fs g
same_later e f g es fs rises same member other = elim (Contains-cases f fs g other) [
  | inl first ↦ absurd (not_later e es rises (subst (λ x. Contains es x) (let here : g ≡ e = cc in here) member))
  | inr later ↦ later
]

-- two rising lists with the same members are equal
same_by_members : (es fs : List Price) → Rises es → Rises fs
    → ((e : Price) → Contains es e → Contains fs e) → ((e : Price) → Contains fs e → Contains es e) → es ≡ fs
same_by_members [] [] r s f g = refl
same_by_members [] (y ∷ ys) r s f g = absurd (Contains-none y (g y (Contains-first y ys)))
same_by_members (x ∷ xs) [] r s f g = absurd (Contains-none x (f x (Contains-first x xs)))
same_by_members (x ∷ xs) (y ∷ ys) r s f g =
    let first : x ≡ y = same_first x y xs ys r s (f x (Contains-first x xs)) (g y (Contains-first y ys)) in
    let later : xs ≡ ys = same_by_members xs ys r.1 s.1
    (λ e c. same_later x y e xs ys r first c (f e (Contains-later x xs e c)))
    (λ e c. same_later y x e ys xs s (sym first) c (g e (Contains-later y ys e c))) in
    cc

-- members that are apart are members of each list that covers alike
members_by_cover : (es fs : List Price) → AreApart es → ((e : Price) → Covers es e → Covers fs e) → ((e : Price) → Covers fs e → Covers es e)
    → (e : Price) → Contains es e → Contains fs e
members_by_cover es fs apart f g e member =
    let low = f e (e, member, IsAtMost-refl e) in
    let lower = g low.0 (low.0, low.1, IsAtMost-refl low.0) in
    let same : lower.0 ≡ e = apart lower.0 e lower.1 member (IsAtMost-trans lower.2 low.2) in
    let back : IsAtMost e low.0 = subst (λ x. IsAtMost x low.0) same lower.2 in
    subst (λ x. Contains fs x) (IsAtMost-antisym low.0 e low.2 back) low.1

-- two rising lists whose members are apart are equal where they cover alike
pub same_by_cover : (es fs : List Price) → Rises es → Rises fs → AreApart es → AreApart fs
    → ((e : Price) → Covers es e → Covers fs e) → ((e : Price) → Covers fs e → Covers es e) → es ≡ fs
same_by_cover es fs r s a b f g = same_by_members es fs r s (members_by_cover es fs a f g) (members_by_cover fs es b g f)

module _ (weighing : Weighing) (system : System) (p : ℕ) (qs : List ℕ) where
  -- a list that covers just what the attacker wins is the list of least prices
  pub least_from_cover : (es : List Price) → Rises es → AreApart es
      → ((e : Price) → Covers es e → AttackerWins weighing system p qs e) → ((e : Price) → AttackerWins weighing system p qs e → Covers es e)
      → AreLeastPrices weighing system p qs es
  least_from_cover es rises apart sound complete = record {
    rises = rises;
    prices = λ e member.
        let win = sound e (e, member, IsAtMost-refl e) in
        let low = complete (price weighing win.0) (win.0, win.1, IsAtMost-refl (price weighing win.0)) in
        let same : low.0 ≡ e = apart low.0 e low.1 member (IsAtMost-trans low.2 win.2) in
        (win.0, win.1, IsAtMost-antisym (price weighing win.0) e win.2 (subst (λ x. IsAtMost x (price weighing win.0)) same low.2));
    covers = λ formula distinguishes. complete (price weighing formula) (formula, distinguishes, IsAtMost-refl (price weighing formula));
    apart = apart;
  }

  covers_alike : (es fs : List Price) → AreLeastPrices weighing system p qs es → AreLeastPrices weighing system p qs fs → (e : Price) → Covers es e
      → Covers fs e
  covers_alike es fs l m e (f, member, below) =
      let paid = l.prices f member in
      let low = m.covers paid.0 paid.1 in
      (low.0, low.1, IsAtMost-trans low.2 (subst (λ x. IsAtMost x e) (sym paid.2) below))

  -- there is at most one list of least prices
  pub one_least : (es fs : List Price) → AreLeastPrices weighing system p qs es → AreLeastPrices weighing system p qs fs → es ≡ fs
  one_least es fs l m = same_by_cover es fs l.rises m.rises l.apart m.apart (covers_alike es fs l m) (covers_alike fs es m l)
