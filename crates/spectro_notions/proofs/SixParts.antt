-- Six parts, read one by one, and parts of which no more than 64 bits are read.
use Rattle.std.proofs.Common.{◌≡◌, ◌∙◌, ℕ, ◌≤◌, true, List, [], ◌∷◌, length, get_or, map, refl, ap, arith}
use Rattle.std.specs.Prelude.{Option, None, Some}
use Rattle.std.specs.List.{list_all}
use Rattle.std.proofs.lemmas.Bool.{and_from, and_parts, leb-true}
use Rattle.std.proofs.lemmas.Grind.{common_steps}
use Rattle.spectro_notions.specs.LineReading.{capped_part}
use Rattle.spectro_notions.specs.NotionLines.{is_small}

pub six_parts : (parts : List (Option ℕ)) → length parts ≡ 6
    → parts ≡ get_or parts 0 None ∷ get_or parts 1 None ∷ get_or parts 2 None ∷ get_or parts 3 None ∷ get_or parts 4 None ∷ get_or parts 5 None ∷ []
six_parts [] is = absurd (omega arith)
six_parts (a ∷ []) is = absurd (omega arith)
six_parts (a ∷ b ∷ []) is = absurd (omega arith)
six_parts (a ∷ b ∷ c ∷ []) is = absurd (omega arith)
six_parts (a ∷ b ∷ c ∷ d ∷ []) is = absurd (omega arith)
six_parts (a ∷ b ∷ c ∷ d ∷ e ∷ []) is = absurd (omega arith)
six_parts (a ∷ b ∷ c ∷ d ∷ e ∷ f ∷ []) is = refl
six_parts (a ∷ b ∷ c ∷ d ∷ e ∷ f ∷ g ∷ parts) is = absurd (omega arith)

-- this is the part with the number, and it is small
abbrev IsSmallPart : List (Option ℕ) → ℕ → Option ℕ → Type 0
IsSmallPart parts k part = (part ≡ get_or parts k None) × (is_small (get_or parts k None) ≡ true)

-- six small parts are all that there are
pub small_parts : (parts : List (Option ℕ)) → length parts ≡ 6 → (a b c d e f : Option ℕ) → IsSmallPart parts 0 a → IsSmallPart parts 1 b
    → IsSmallPart parts 2 c → IsSmallPart parts 3 d → IsSmallPart parts 4 e → IsSmallPart parts 5 f
    → (a ∷ b ∷ c ∷ d ∷ e ∷ f ∷ [] ≡ parts) × (list_all is_small parts ≡ true)
small_parts parts six a b c d e f h i j k l m =
    let whole = six_parts parts six in (
      cc,
      ap (list_all is_small) whole ∙ and_from _ _ h.1 (and_from _ _ i.1 (and_from _ _ j.1 (and_from _ _ k.1 (and_from _ _ l.1 (and_from _ _ m.1 refl))))),
    )

is_small-capped : (part : Option ℕ) → is_small (capped_part part) ≡ is_small part
is_small-capped None = refl
is_small-capped (Some most) = grind (arith, common_steps)

-- parts are small where what is read of them is
pub all_small-capped : (parts : List (Option ℕ)) → list_all is_small (map capped_part parts) ≡ list_all is_small parts
all_small-capped [] = refl
all_small-capped (part ∷ parts) = rw (is_small-capped part, all_small-capped parts) refl

capped-small : (part : Option ℕ) → is_small part ≡ true → capped_part part ≡ part
capped-small None small = refl
capped-small (Some most) small = let low : most ≤ 4294967295 = leb-true most 4294967295 small in ap Some (omega arith)

-- small parts are read whole
pub all_capped-small : (parts : List (Option ℕ)) → list_all is_small parts ≡ true → map capped_part parts ≡ parts
all_capped-small [] small = refl
all_capped-small (part ∷ parts) small =
    let both = and_parts (is_small part) (list_all is_small parts) small in
    ap (λ part. part ∷ map capped_part parts) (capped-small part both.0) ∙ ap (λ parts. part ∷ parts) (all_capped-small parts both.1)
