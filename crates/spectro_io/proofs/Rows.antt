-- The texts of a row of things, one behind the other.
use Rattle.std.proofs.Common.{◌≡◌, ◌∙◌, ℕ, ◌+◌, ◌<◌, List, ◌++◌, length, take, drop, get_or, sym, ap, append_assoc, take-append-drop}
use Rattle.std.specs.List.{flat_map}
use Rattle.std.proofs.lemmas.Grind.{flat_map-append}
use Rattle.std.proofs.lemmas.List.{flat_map_more, take_more}

module _ {X : Type 0} (text_of : X → List ℕ) (front : List ℕ) (row : List X) (place : ℕ) (d : X) (within : place < length row) where
  -- one text more
  pub row-more : (front ++ flat_map text_of (take place row)) ++ text_of (get_or row place d) ≡ front ++ flat_map text_of (take (place + 1) row)
  row-more = flat_map_more text_of front (take place row) (get_or row place d) ∙ ap (λ row. front ++ flat_map text_of row) (sym (take_more row place d within))

  -- the texts up to a place, that of the place, and those behind it
  pub row-stopped : front ++ flat_map text_of row ≡ ((front ++ flat_map text_of (take place row)) ++ text_of (get_or row place d)) ++ flat_map text_of
      (drop (place + 1) row)
  row-stopped =
      let whole : flat_map text_of row ≡ flat_map text_of (take (place + 1) row) ++ flat_map text_of (drop (place + 1) row) =
      ap (flat_map text_of) (sym (take-append-drop (place + 1) row)) ∙ flat_map-append text_of (take (place + 1) row) (drop (place + 1) row) in
      ap (λ text. front ++ text) whole ∙ sym (append_assoc front _ _) ∙ ap (λ text. text ++ flat_map text_of (drop (place + 1) row)) (sym row-more)
