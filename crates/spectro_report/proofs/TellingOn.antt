-- What was found is told place by place.
use Rattle.std.proofs.Common.{◌≡◌, ◌∙◌, ◌+◌, ◌-◌, ◌<◌, ℕ, suc, List, [], ◌∷◌, ◌++◌, drop, get_or, length, take, ap, sym, subst, arith}
use Rattle.std.specs.Prelude.{Option, Some, None}
use Rattle.std.specs.Option.{option_map}
use Rattle.std.proofs.Math.Seq.{drop-cons, take-add}
use Rattle.std.proofs.lemmas.List.{length-drop, map-append, take_all, take_more}
use Rattle.spectro_spec.specs.Price.{Price}
use Rattle.spectro_energy.specs.Energy.{price_of}
use Rattle.spectro_energy.specs.declared.energy.Energy.{Energy}
use Rattle.spectro_hml.specs.Sheets.{SheetNode}
use Rattle.spectro_report.specs.Firsts.{AreTold, IsPutLast, firsts_of, prices_found}
use Rattle.spectro_report.specs.Verdicts.{Verdict}
use Rattle.spectro_report.proofs.Telling.{told-more}

-- as many prices are found as of the first one and of the others together
found-split : (first : Option Energy) (firsts : List (Option Energy))
    → length (prices_found (firsts_of (first ∷ firsts))) ≡ length (prices_found (firsts_of (first ∷ []))) + length (prices_found (firsts_of firsts))
found-split None firsts = omega arith
found-split (Some e) firsts = omega arith

module _ (firsts : List (Option Energy)) (k : ℕ) (d : Option Energy) (below : k < length firsts) where
  -- as many are left as are found at the place and behind it
  pub left-next : length (prices_found (firsts_of (drop k firsts)))
      ≡ length (prices_found (firsts_of (get_or firsts k d ∷ []))) + length (prices_found (firsts_of (drop (k + 1) firsts)))
  left-next =
      let next : suc k ≡ k + 1 = omega arith in
      ap (λ others. length (prices_found (firsts_of others))) (drop-cons firsts k d below) ∙ found-split (get_or firsts k d) (drop (suc k) firsts)
      ∙ ap (λ n. length (prices_found (firsts_of (get_or firsts k d ∷ []))) + length (prices_found (firsts_of (drop n firsts)))) next

  -- one more is told, by the next of the numbers
  pub told-next : (nodes : List SheetNode) (numbers : List ℕ) (next count : ℕ) (old new : List Verdict)
      → AreTold nodes (firsts_of (take k firsts)) (take next numbers) old
      → IsPutLast nodes (option_map (λ energy. price_of energy.parts) (get_or firsts k d))
      (take count (take (length numbers - next) (drop next numbers))) old new
      → AreTold nodes (firsts_of (take (k + 1) firsts)) (take (next + count) numbers) new
  told-next nodes numbers next count old new told last =
      let price : Option Energy → Option Price = option_map (λ energy. price_of energy.parts) in
      let more : firsts_of (take (k + 1) firsts) ≡ firsts_of (take k firsts) ++ price (get_or firsts k d) ∷ [] =
      ap firsts_of (take_more firsts k d below) ∙ map-append price (take k firsts) (get_or firsts k d ∷ []) in
      let rest : take (length numbers - next) (drop next numbers) ≡ drop next numbers =
      take_all (length numbers - next) (drop next numbers) (omega (arith, length-drop next numbers)) in
      let named : take (next + count) numbers ≡ take next numbers ++ take count (take (length numbers - next) (drop next numbers)) =
      take-add next count numbers ∙ ap (λ others. take next numbers ++ take count others) (sym rest) in
      subst (λ found. AreTold nodes found (take (next + count) numbers) new) (sym more)
      (subst (λ ns. AreTold nodes (firsts_of (take k firsts) ++ price (get_or firsts k d) ∷ []) ns new) (sym named)
      (told-more nodes (firsts_of (take k firsts)) (price (get_or firsts k d)) (take next numbers)
      (take count (take (length numbers - next) (drop next numbers))) old new told last))
