-- Minimal elements where one more is inserted.
use Rattle.std.proofs.Common.{ℕ, ◌≡◌, ◌+◌, ◌<◌, List, [], ◌∷◌, ◌++◌, length, map, take, slice_index_or, sym, ap, ◌∙◌, append_assoc}
use Rattle.std.proofs.lemmas.List.{map_more}
use Rattle.spectro_spec.specs.Price.{Price}
use Rattle.spectro_game.specs.MinimalElements.{inserted, minimal_elements}
use Rattle.spectro_theory.specs.LawsOfPrices.{MinimalElementsGrow}

-- what f makes of the next member is inserted
pub minimal_elements-more : MinimalElementsGrow → (f : Price → Price) (es fs old new : List Price) (k : ℕ) (x d : Price) → k < length fs
    → old ≡ minimal_elements (es ++ map f (take k fs)) → new ≡ inserted x old → x ≡ f d → d ≡ slice_index_or fs k d
    → new ≡ minimal_elements (es ++ map f (take (k + 1) fs))
minimal_elements-more grow f es fs old new k x d below was now is at =
    now ∙ ap (inserted x) was ∙ ap (λ y. inserted y (minimal_elements (es ++ map f (take k fs)))) (is ∙ ap f at)
    ∙ sym (grow (es ++ map f (take k fs)) (f (slice_index_or fs k d)))
    ∙ ap minimal_elements (append_assoc es (map f (take k fs)) (f (slice_index_or fs k d) ∷ []) ∙ ap (λ ps. es ++ ps) (sym (map_more f fs k d below)))
