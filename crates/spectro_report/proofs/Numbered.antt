-- The numbers of the nodes that are built for the prices of two pairs.
use Rattle.std.proofs.Common.{◌≡◌, ◌∙◌, ◌+◌, ◌<◌, ℕ, List, [], ◌∷◌, ◌++◌, All, length, map, ap, sym, subst, refl, arith, length-append}
use Rattle.std.specs.Prelude.{Option, None, Some, slice_get}
use Rattle.std.specs.Option.{option_map}
use Rattle.std.proofs.lemmas.List.{length-map}
use Rattle.std.proofs.lemmas.Option.{slice_get-get_or, slice_get-map, slice_get_within}
use Rattle.spectro_spec.specs.System.{System}
use Rattle.spectro_spec.specs.Weighing.{Weighing}
use Rattle.spectro_spec.specs.Price.{Price}
use Rattle.spectro_game.specs.Pairs.{Pair}
use Rattle.spectro_game.specs.Generations.{Table}
use Rattle.spectro_game.specs.Reached.{StandsAt}
use Rattle.spectro_hml.specs.Sheets.{SheetNode}
use Rattle.spectro_build.specs.Choices.{Need}
use Rattle.spectro_build.specs.Built.{IsBuilt}
use Rattle.spectro_report.specs.Firsts.{AreTold, prices_found}
use Rattle.spectro_report.specs.Reports.{needs_at, nodes_told, prices_told}
use Rattle.spectro_report.specs.Verdicts.{Verdict}
use Rattle.spectro_report.proofs.Telling.{prices_told-found}

pub needs-long : (x : Pair) (es : List Price) → length (needs_at x es) ≡ length es
needs-long x [] = refl
needs-long x (e ∷ es) = omega (arith, needs-long x es)

module _ (weighing : Weighing) (system : System) (pairs : List Pair) (table : Table) (x y : Pair) (es fs : List Price) (nodes : List SheetNode)
    (numbers : List ℕ) (built : IsBuilt weighing system pairs table (needs_at x es ++ needs_at y fs) nodes numbers) where
  wanted : List Need
  wanted = needs_at x es ++ needs_at y fs

  -- there is a number for each price
  pub numbers-long : length numbers ≡ length es + length fs
  unfolding wanted
  numbers-long =
      let same : length (map (slice_get built.needs) numbers) ≡ length (map Some wanted) = ap length built.numbered in
      omega (
        arith,
        same,
        length-map numbers (slice_get built.needs),
        length-map wanted (λ (one : Need). Some one),
        length-append (needs_at x es) (needs_at y fs),
        needs-long x es,
        needs-long y fs,
      )

  -- and it is that of a node
  pub number-below : (i k : ℕ) → StandsAt numbers i k → k < length nodes
  unfolding wanted
  number-below i k here =
      let same : slice_get (map (slice_get built.needs) numbers) i ≡ slice_get (map Some wanted) i = ap (λ found. slice_get found i) built.numbered in
      let found : slice_get (map (slice_get built.needs) numbers) i ≡ Some (slice_get built.needs k) =
      slice_get-map (slice_get built.needs) numbers i ∙ ap (option_map (slice_get built.needs)) here in
      go (slice_get wanted i) (sym found ∙ same ∙ slice_get-map Some wanted i)
    where
      go : (one : Option Need) → Some (slice_get built.needs k) ≡ option_map Some one → k < length nodes
      go None is = absurd (cc)
      go (Some z) is = let at : slice_get built.needs k ≡ Some z = cc in omega (arith, slice_get_within built.needs k z at, built.count)

  pub numbers-below : All (λ k. k < length nodes) numbers
  numbers-below i d below = number-below i _ (slice_get-get_or numbers i d below)

-- what is built for what was found, is built for the verdicts that tell it
pub built-told : (weighing : Weighing) (system : System) (pairs : List Pair) (table : Table) (x y : Pair) (firsts others : List (Option Price))
    (nodes : List SheetNode) (numbers : List ℕ)
    → IsBuilt weighing system pairs table (needs_at x (prices_found firsts) ++ needs_at y (prices_found others)) nodes numbers
    → (front rest : List ℕ) → front ++ rest ≡ numbers → (forth back : List Verdict) → AreTold nodes firsts front forth → AreTold nodes others rest back
    → IsBuilt weighing system pairs table (needs_at x (prices_told forth) ++ needs_at y (prices_told back)) nodes (nodes_told forth ++ nodes_told back)
built-told weighing system pairs table x y firsts others nodes numbers built front rest whole forth back told also =
    let same : needs_at x (prices_found firsts) ++ needs_at y (prices_found others) ≡ needs_at x (prices_told forth) ++ needs_at y (prices_told back) =
    λ i. needs_at x (sym (prices_told-found nodes firsts forth told.each) i) ++
    needs_at y (sym (prices_told-found nodes others back also.each) i) in
    let named : numbers ≡ nodes_told forth ++ nodes_told back = sym whole ∙ (λ i. sym told.named i ++ sym also.named i) in
    subst (λ ns. IsBuilt weighing system pairs table (needs_at x (prices_told forth) ++ needs_at y (prices_told back)) nodes ns) named
    (subst (λ needs. IsBuilt weighing system pairs table needs nodes numbers) same built)
