-- A walk over the nodes of a sheet, lowest first.
use Rattle.std.proofs.Common.{◌≡◌, ◌∙◌, ℕ, zero, suc, ◌+◌, List, [], ◌∷◌, ◌++◌, length, map, take, Some, slice_get, sym, ap, arith}
use Rattle.std.proofs.lemmas.List.{length_push, map_push, take_more}
use Rattle.std.proofs.lemmas.Option.{slice_get_within, get_or_from_slice_get}
use Rattle.spectro_spec.specs.Price.{Price, IsAtMost}
use Rattle.spectro_spec.specs.Pricing.{price}
use Rattle.spectro_spec.specs.Weighing.{Weighing}
use Rattle.spectro_energy.specs.Energy.{price_of, prices_of}
use Rattle.spectro_energy.specs.declared.energy.Energy.{Energy}
use Rattle.spectro_hml.specs.Sheets.{SheetNode, formulas_of}
use Rattle.spectro_price.specs.NodePrices.{price_of_node, limit, AreLow}
use Rattle.spectro_price.proofs.NodePrices.{prices-push}

-- these are the prices of the first k nodes
pub record ArePrices (weighing : Weighing) (nodes : List SheetNode) (k : ℕ) (found : List Energy) : Type 0 where
  pub count : length found ≡ k
  pub costs : prices_of found ≡ map (price weighing) (formulas_of (take k nodes))
  pub low : AreLow (k + 1) (prices_of found)

AreLow-push : (n m : ℕ) (prices : List Price) (e : Price) → m ≡ n + 2 → AreLow (n + 1) prices → IsAtMost e (limit m) → AreLow m (prices ++ e ∷ [])
AreLow-push n m [] e is low here zero = here
AreLow-push n m [] e is low here (suc k) = omega arith
AreLow-push n m (f ∷ prices) e is low here zero = let first = low 0 in omega arith
AreLow-push n m (f ∷ prices) e is low here (suc k) = AreLow-push n m prices e is (λ j. low (suc j)) here k

pub ArePrices-more : (weighing : Weighing) (nodes : List SheetNode) (k : ℕ) (found more : List Energy) (node : SheetNode) (e : Energy)
    → ArePrices weighing nodes k found
    → slice_get nodes k ≡ Some node → more ≡ found ++ e ∷ [] → price_of e.parts ≡ price_of_node weighing (prices_of found) node
    → IsAtMost (price_of e.parts) (limit (length found + 2))
    → ArePrices weighing nodes (k + 1) more
ArePrices-more weighing nodes k found more node e so_far at grown costs low = record {
  count = ap length grown ∙ length_push found e ∙ ap (λ n. n + 1) so_far.count;
  costs = listed ∙ ap (λ es. es ++ price_of e.parts ∷ []) so_far.costs
      ∙ ap (λ f. map (price weighing) (formulas_of front) ++ f ∷ []) (costs ∙ ap (λ es. price_of_node weighing es node) so_far.costs)
      ∙ sym (prices-push weighing front node) ∙ ap (λ nodes. map (price weighing) (formulas_of nodes)) (sym longer);
  low = rw listed (AreLow-push k (k + 1 + 1) (prices_of found) (price_of e.parts) (omega arith) so_far.low (rw (← ends) low));
}
  where
    front : List SheetNode
    front = take k nodes

    listed : prices_of more ≡ prices_of found ++ price_of e.parts ∷ []
    listed = ap prices_of grown ∙ map_push (λ energy. price_of energy.parts) found e

    longer : take (k + 1) nodes ≡ front ++ node ∷ []
    longer = take_more nodes k node (slice_get_within nodes k node at) ∙ ap (λ last. front ++ last ∷ []) (get_or_from_slice_get nodes k node node at)

    ends : length found + 2 ≡ k + 1 + 1
    ends = omega (arith, so_far.count)
