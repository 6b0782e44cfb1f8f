-- What calls on energies leave of their prices.
use Rattle.std.proofs.Common.{ℕ, ◌≡◌, List, [], ◌∷◌, length, refl, sym, ap, subst, ◌∙◌, Bool, true, false}
use Rattle.std.proofs.Common.{cond, not, ◌||◌, ◌+◌, ◌<◌, ◌≤◌, ◌≢◌, suc, arith, ltb, Some, None, take, get_or}
use Rattle.std.specs.Bool.{Decides, ◌==◌}
use Rattle.std.specs.Option.{unwrap_or}
use Rattle.std.specs.Prelude.{◌↔◌, IsTrue}
use Rattle.std.specs.Ordering.{ordering_index}
use Rattle.std.specs.declared.cmp.Ordering.{Ordering}
use Rattle.std.specs.declared.cmp.Ordering.TheVariants.{Less, Equal, Greater}
use Rattle.std.specs.List.{list_any, filter, insert, position_or_len}
use Rattle.std.proofs.lemmas.Bool.Decides.{same_from_decides, Decides-at, Decides-ltb, not_from_Decides}
use Rattle.std.proofs.lemmas.List.{get_or-map, length-map, take_more_same}
use Rattle.std.proofs.lemmas.List.Sums.{prefix_len-le-length}
use Rattle.spectro_spec.specs.Price.{Price, IsAtMost, ComesBefore, parts}
use Rattle.spectro_spec.specs.LeastPrices.{Covers, Rises, AreApart}
use Rattle.spectro_game.specs.MinimalElements.{is_at_most, precedes, some_covers, not_above, placed_price, inserted}
use Rattle.spectro_energy.specs.Energy.{price_of, prices_of, IsLexicographic}
use Rattle.spectro_energy.specs.declared.energy.Energy.{Energy}
use Rattle.spectro_theory.proofs.MinimalElements.{by_test, is_at_most-Decides, precedes-Decides, some_covers-Decides, inserted-rises, inserted-apart}
use Rattle.spectro_antichain.specs.Prices.{comes_first}

-- an answer that tells the order is the test of it
pub at_most_by : (answer : Bool) (e f : Price) → (IsTrue answer ↔ IsAtMost e f) → answer ≡ is_at_most e f
at_most_by answer e f told = same_from_decides answer (is_at_most e f) told (is_at_most-Decides e f)

pub above_by : (answer : Bool) (e f : Price) → (other : Bool) × (answer ≡ not other) × (IsTrue other ↔ IsAtMost e f) → answer ≡ not (is_at_most e f)
above_by answer e f (other, is, told) = is ∙ ap not (at_most_by other e f told)

pub first_by : (answer : Bool) (e f : Price) → (IsTrue answer ↔ ComesBefore e f) → answer ≡ precedes (parts e) (parts f)
first_by answer e f told = same_from_decides answer (precedes (parts e) (parts f)) told (precedes-Decides (parts e) (parts f))

-- what the test for the same place in the order tells
pub same_by : (order : Ordering) (e f : Price) → IsLexicographic order e f → not (ordering_index order == 1) ≡ false → e ≡ f
same_by Less e f told same = cc
same_by Equal e f told same = told.equal.0 refl
same_by Greater e f told same = cc

pub apart_by : (order : Ordering) (e f : Price) → IsLexicographic order e f → not (ordering_index order == 1) ≡ true → e ≢ f
apart_by Less e f told apart same = let wrong = told.equal.1 same in cc
apart_by Equal e f told apart same = cc
apart_by Greater e f told apart same = let wrong = told.equal.1 same in cc

-- the price of the energy at place k
price-prices_of : (fs : List Energy) (k : ℕ) (f : Energy) (d : Price) → k < length fs → get_or (prices_of fs) k d ≡ price_of (get_or fs k f).parts
price-prices_of fs k f d below = get_or-map (λ g. price_of g.parts) fs k f d below

-- two lists of energies with the same first prices, and one more
pub same_more : (fs gs : List Energy) (k : ℕ) (f : Energy) → length fs ≡ length gs → k < length fs → take k (prices_of fs) ≡ take k (prices_of gs)
    → price_of (get_or fs k f).parts ≡ price_of (get_or gs k f).parts → take (k + 1) (prices_of fs) ≡ take (k + 1) (prices_of gs)
same_more fs gs k f long below was same =
    let d = price_of f.parts in
    let left = price-prices_of fs k f d below in
    let right = price-prices_of gs k f d (omega arith) in
    take_more_same (prices_of fs) (prices_of gs) k d (omega (arith, length-map fs (λ g. price_of g.parts)))
    (omega (arith, length-map gs (λ g. price_of g.parts)))
    was (left ∙ same ∙ sym right)

-- lists of energies with the same prices have the same price at each place
pub same_at : (fs gs : List Energy) (k : ℕ) (f : Energy) → length fs ≡ length gs → k < length fs → prices_of fs ≡ prices_of gs
    → price_of (get_or fs k f).parts ≡ price_of (get_or gs k f).parts
same_at fs gs k f long below same =
    let d = price_of f.parts in
    sym (price-prices_of fs k f d below) ∙ ap (λ ps. get_or ps k d) same ∙ price-prices_of gs k f d (omega arith)

-- whether some energy's price is at most e
some_covers-prices_of : (e : Price) (fs : List Energy) → list_any (λ f. is_at_most (price_of f.parts) e) fs ≡ some_covers (prices_of fs) e
some_covers-prices_of e [] = refl
some_covers-prices_of e (f ∷ fs) = ap (λ b. is_at_most (price_of f.parts) e || b) (some_covers-prices_of e fs)

-- an answer that tells whether some energy is at most e
pub covers_by : (answer : Bool) (e : Price) (fs : List Energy) → answer ≡ list_any (λ f. is_at_most (price_of f.parts) e) fs
    → IsTrue answer ↔ Covers (prices_of fs) e
covers_by answer e fs told = Decides-at answer (some_covers (prices_of fs) e) (told ∙ some_covers-prices_of e fs) (some_covers-Decides (prices_of fs) e)

-- the prices of the energies that e is not at most
pub not_above-prices_of : (e : Price) (fs : List Energy) → prices_of (filter (λ f. not (is_at_most e (price_of f.parts))) fs) ≡ not_above e (prices_of fs)
not_above-prices_of e [] = refl
not_above-prices_of e (f ∷ fs) = by (is_at_most e (price_of f.parts)) (not_above-prices_of e fs)
  where
    by : (above : Bool) → prices_of (filter (λ g. not (is_at_most e (price_of g.parts))) fs) ≡ not_above e (prices_of fs)
        → prices_of (cond (not above) (f ∷ filter (λ g. not (is_at_most e (price_of g.parts))) fs) (filter (λ g. not (is_at_most e (price_of g.parts))) fs))
        ≡ cond above (not_above e (prices_of fs)) (price_of f.parts ∷ not_above e (prices_of fs))
    by true rest = rest
    by false rest = ap (λ ps. price_of f.parts ∷ ps) rest

-- where e is put before the first that it comes before, its price is put in its place
pub placed_price-prices_of : (e : Energy) (fs : List Energy)
    → prices_of (insert fs (position_or_len (comes_first e) fs) e) ≡ placed_price (price_of e.parts) (prices_of fs)
placed_price-prices_of e [] = refl
placed_price-prices_of e (f ∷ fs) = by (comes_first e f) (placed_price-prices_of e fs)
  where
    at : Bool → ℕ
    at first = cond (not first) (1 + position_or_len (comes_first e) fs) 0

    by : (first : Bool) → prices_of (insert fs (position_or_len (comes_first e) fs) e) ≡ placed_price (price_of e.parts) (prices_of fs)
        → prices_of (insert (f ∷ fs) (at first) e) ≡ cond first (price_of e.parts ∷ price_of f.parts ∷ prices_of fs)
        (price_of f.parts ∷ placed_price (price_of e.parts) (prices_of fs))
    by true rest = refl
    by false rest = let on : 1 + position_or_len (comes_first e) fs ≡ suc (position_or_len (comes_first e) fs) = omega arith in
        ap (λ n. prices_of (insert (f ∷ fs) n e)) on ∙ ap (λ ps. price_of f.parts ∷ ps) rest

-- what inserting leaves, by whether e was covered
pub inserted-covered : (e : Price) (es : List Price) → Covers es e → es ≡ inserted e es
inserted-covered e es covered = by_test (λ b. es ≡ cond b es (placed_price e (not_above e es))) (some_covers es e) (some_covers-Decides es e) (λ _. refl)
    (λ apart. absurd (apart covered))

pub inserted-new : (e : Price) (es : List Price) → ¬ Covers es e → placed_price e (not_above e es) ≡ inserted e es
inserted-new e es apart = by_test (λ b. placed_price e (not_above e es) ≡ cond b es (placed_price e (not_above e es))) (some_covers es e)
    (some_covers-Decides es e) (λ covered. absurd (apart covered)) (λ _. refl)

-- what is left where e is put at its place among the energies that it is not at most
pub inserted-prices_of : (e : Energy) (fs gs : List Energy) (es : List Price) (place : ℕ) → ¬ Covers es (price_of e.parts)
    → prices_of fs ≡ not_above (price_of e.parts) es → place ≡ position_or_len (comes_first e) fs → gs ≡ insert fs place e
    → prices_of gs ≡ inserted (price_of e.parts) es
inserted-prices_of e fs gs es place apart kept at now =
    ap prices_of now ∙ ap (λ n. prices_of (insert fs n e)) at ∙ placed_price-prices_of e fs ∙ ap (placed_price (price_of e.parts)) kept
    ∙ inserted-new (price_of e.parts) es apart

-- what is inserted into an antichain leaves one
pub inserted-antichain : (e : Price) (es fs : List Price) → fs ≡ inserted e es → Rises es × AreApart es → Rises fs × AreApart fs
inserted-antichain e es fs now (rises, apart) = subst (λ gs. Rises gs × AreApart gs) (sym now) (inserted-rises e es rises, inserted-apart e es apart)

-- the first place at which the test passes, or that of the end, where `position` told it
told_place : (k n : ℕ) → k ≤ n → (below : Bool) → Decides below (k < n) → unwrap_or (cond below (Some k) None) n ≡ k
told_place k n low true told = refl
told_place k n low false told = omega (arith, not_from_Decides false told refl)

pub place-from_position : (p : Energy → Bool) (fs : List Energy)
    → unwrap_or (cond (ltb (position_or_len p fs) (length fs)) (Some (position_or_len p fs)) None) (length fs) ≡ position_or_len p fs
place-from_position p fs = told_place (position_or_len p fs) (length fs) (prefix_len-le-length (λ f. not (p f)) fs) (ltb (position_or_len p fs) (length fs))
    (Decides-ltb (position_or_len p fs) (length fs))
