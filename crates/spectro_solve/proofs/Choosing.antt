-- What is chosen for one mask after another.
use Rattle.std.proofs.Common.{ℕ, ◌≡◌, ◌≢◌, ◌⊎◌, inl, inr, ◌+◌, ◌^◌, ◌<◌, List, [], sym, subst, ◌∙◌, arith, ◌++◌, set, length, ap}
use Rattle.std.specs.Int.{bit_at}
use Rattle.std.proofs.lemmas.Nat.Bits.{bit_at-zero}
use Rattle.spectro_spec.specs.Price.{Price}
use Rattle.spectro_spec.specs.LeastPrices.{Covers}
use Rattle.spectro_spec.proofs.Members.{Contains-none}
use Rattle.spectro_game.specs.MinimalElements.{inserted}
use Rattle.spectro_game.specs.Sup.{zero_price}
use Rattle.spectro_game.specs.Update.{conjoin, inverse}
use Rattle.spectro_theory.proofs.MinimalElements.{Covers-inserted}
use Rattle.spectro_rows.specs.Rows.{row_at}
use Rattle.spectro_solve.specs.Added.{AreChosen, CanBeConjoined, Grows, IsCoveredByBoth}
use Rattle.spectro_solve.specs.Choices.{AreChosenTo, AreCovered, IsChosenFor}
use Rattle.spectro_solve.proofs.Adding.{low-one}
use Rattle.spectro_solve.proofs.Listing.{row-first, row-left}
use Rattle.spectro_solve.proofs.MaskBits.{IsWithout}

-- for no member nothing is to be paid
pub chosen-empty : (clauses : List (List Price)) (made new : List Price) → new ≡ inserted zero_price [] → IsChosenFor clauses made 0 new
chosen-empty clauses made new now = record {
  sound = λ b covered i set. absurd (let none = bit_at-zero i in let two : bit_at 0 i ≡ 1 = set in omega arith);
  whole = λ b covered. inl (subst (λ l. Covers l b) (sym now) ((Covers-inserted zero_price [] b).1 (inr (omega arith))));
  low = low-one zero_price [] new now (let small : 0 + 1 < 2 ^ 32 = omega arith in small) (λ e member. absurd (Contains-none e member));
}

-- one member more
pub chosen-next : (clauses : List (List Price)) (made before new : List Price) (mask rest i : ℕ) → bit_at mask i ≡ 1 → IsWithout mask i rest
    → IsChosenFor clauses made rest before → AreChosen (IsCoveredByBoth before (row_at clauses i)) made [] new → CanBeConjoined new
    → IsChosenFor clauses made mask new
chosen-next clauses made before new mask rest i set without smaller chosen low = record {
  sound = λ b covered. elim (chosen.sound b covered) [
    | inl (f, member, below) ↦ absurd (Contains-none f member)
    | inr (left, right) ↦ both b left right
  ];
  whole = λ b all. elim (smaller.whole b (λ j one. all j (fewer j one))) [
    | inl left ↦ chosen.whole b (left, all i set)
    | inr useless ↦ inr useless
  ];
  low = low;
}
  where
    both : (b : Price) → Covers before b → Covers (row_at clauses i) b → AreCovered clauses mask b
    both b left right j one = by (let h : (j ≡ i) ⊎ (j ≢ i) = grind arith in h)
      where
        by : (j ≡ i) ⊎ (j ≢ i) → Covers (row_at clauses j) b
        by (inl is) = subst (λ n. Covers (row_at clauses n) b) (sym is) right
        by (inr other) = smaller.sound b left j (without.same j other ∙ one)

    fewer : (j : ℕ) → bit_at rest j ≡ 1 → bit_at mask j ≡ 1
    fewer j one = sym (without.same j (λ is. let none : bit_at rest i ≡ 0 = without.clear in
        let two : bit_at rest i ≡ 1 = subst (λ n. bit_at rest n ≡ 1) is one in omega arith)) ∙ one

-- where more is made, what is chosen stays so
pub chosen-grows : (clauses : List (List Price)) (made more : List Price) (mask : ℕ) (list : List Price) → ((e : Price) → Covers made e → Covers more e)
    → IsChosenFor clauses made mask list → IsChosenFor clauses more mask list
chosen-grows clauses made more mask list grows chosen = record {
  sound = chosen.sound;
  whole = λ b all. elim (chosen.whole b all) [ inl covered ↦ inl covered | inr useless ↦ inr (grows (inverse conjoin b) useless) ];
  low = chosen.low;
}

-- where the lists are in two parts
pub chosen-front : (clauses : List (List Price)) (made : List Price) (mask : ℕ) (old front back : List (List Price)) → old ≡ front ++ back
    → length front ≡ mask → AreChosenTo clauses made mask old → AreChosenTo clauses made (length front) front
chosen-front clauses made mask old front back parts long chosen j below =
    subst (IsChosenFor clauses made j) (ap (λ rows. row_at rows j) parts ∙ row-left front back j below) (chosen j (omega (arith, below, long)))

pub chosen-more : (clauses : List (List Price)) (made more : List Price) (mask : ℕ) (front back : List (List Price)) (new : List Price) → length front ≡ mask
    → 0 < length back → Grows made more → AreChosenTo clauses made (length front) front → IsChosenFor clauses made mask new
    → AreChosenTo clauses more (mask + 1) (front ++ set back 0 new)
chosen-more clauses made more mask front back new long some grows before here j below = by (let h : (j ≡ mask) ⊎ (j < mask) = grind arith in h)
  where
    by : (j ≡ mask) ⊎ (j < mask) → IsChosenFor clauses more j (row_at (front ++ set back 0 new) j)
    by (inl is) = let place : j ≡ length front = is ∙ sym long in
        subst (λ n. IsChosenFor clauses more n (row_at (front ++ set back 0 new) n)) (sym place)
        (subst (IsChosenFor clauses more (length front)) (sym (row-first front back new some))
        (chosen-grows clauses made more (length front) new grows (subst (λ n. IsChosenFor clauses made n new) (sym long) here)))
    by (inr earlier) =
        let within : j < length front = omega (arith, earlier, long) in
        subst (IsChosenFor clauses more j) (sym (row-left front (set back 0 new) j within))
        (chosen-grows clauses made more j (row_at front j) grows (before j within))
