-- What is read as a field of a line is one, and each field is read: blanks, numbers, commas, and a byte at the end.
use Rattle.std.proofs.Common.{◌≡◌, ◌∙◌, ℕ, suc, ◌+◌, ◌-◌, ◌^◌, ◌<◌, Bool, true, false, List, [], ◌∷◌, ◌++◌, get_or, take, drop, length, min, arith, inl, inr, refl, sym, ap, subst, append_assoc, length-append}
use Rattle.std.specs.Prelude.{Option, None, Some, nat_lt, nat_eq, ◌||◌, reverse, position, Contains}
use Rattle.std.specs.Char.{is_ascii_digit}
use Rattle.std.specs.List.{list_all, list_any, position_or_len}
use Rattle.std.specs.Option.{option_map}
use Rattle.std.specs.Str.{IsAscii}
use Rattle.std.proofs.Math.Seq.{take-append_seam, drop-append_seam}
use Rattle.std.proofs.lemmas.Bool.{both_ways, false_from_ne_true, lt-ltb, and_from, and_parts, or_parts, or_from, or_left, or_right, eqb-true, eq-eqb, ne_eqb, ltb-true, true_from_ne_false, cases_lt}
use Rattle.std.proofs.lemmas.Grind.{common_steps}
use Rattle.std.proofs.lemmas.List.{reverse-append, reverse-reverse, take-append-drop, length-take, get_or-take, get_or_append_left, get_or_at, get_or_past, drop_more, drop-drop}
use Rattle.std.proofs.lemmas.List.Elements.{All-from_get_or}
use Rattle.std.proofs.lemmas.List.Folds.{list_all-append, list_any-append, list_all_at, list_any_at, list_any_none}
use Rattle.std.proofs.lemmas.List.Quantifiers.{position-Some}
use Rattle.std.proofs.lemmas.List.Sums.{position_or_len_is}
use Rattle.std.proofs.lemmas.Option.{cond_some, same_Some, some_pair_parts}
use Rattle.spectro_io.specs.Blanks.{is_blank, trimmed}
use Rattle.spectro_io.specs.Fronts.{after}
use Rattle.spectro_io.specs.Numbers.{is_number, number_value, capped}
use Rattle.spectro_io.proofs.Blanks.{trims}
use Rattle.spectro_io.proofs.Fronts.{after_sound, after_complete}
use Rattle.spectro_aut.specs.Fields.{IsNumberField}
use Rattle.spectro_aut.specs.Reading.{before_last, first_split, last_split, field_number}

-- lists in reverse
pub reverse-cons : (x : ℕ) (xs : List ℕ) → reverse (x ∷ xs) ≡ reverse xs ++ x ∷ []
reverse-cons x xs = reverse-append (x ∷ []) xs

pub list_any-reverse : (p : ℕ → Bool) (xs : List ℕ) → list_any p xs ≡ false → list_any p (reverse xs) ≡ false
list_any-reverse p [] none = refl
list_any-reverse p (x ∷ xs) none =
    let parts = or_parts (p x) (list_any p xs) none in
    ap (list_any p) (reverse-cons x xs) ∙ list_any-append p (reverse xs) (x ∷ []) ∙ or_from _ _ (list_any-reverse p xs parts.1) (or_from _ _ parts.0 refl)

pub list_all-at : (p : ℕ → Bool) (xs : List ℕ) (k : ℕ) → list_all p xs ≡ true → k < length xs → p (get_or xs k 0) ≡ true
list_all-at p xs k all within = true_from_ne_false _ (λ fails. both_ways _ (list_all_at p xs k 0 within fails) all)

-- a byte that fails the test of all others is not among them
pub list_any-other : (p : ℕ → Bool) (byte : ℕ) (xs : List ℕ) → list_all p xs ≡ true → p byte ≡ false → list_any (λ other. nat_eq other byte) xs ≡ false
list_any-other p byte [] all fails = refl
list_any-other p byte (x ∷ xs) all fails =
    let parts = and_parts (p x) (list_all p xs) all in
    or_from _ _ (false_from_ne_true _ (λ same. both_ways (p x) (ap p (eqb-true x byte same) ∙ fails) parts.0)) (list_any-other p byte xs parts.1 fails)

-- what stands before a byte at the end
pub before_last_sound : (byte : ℕ) (text front : List ℕ) → before_last byte text ≡ Some front → text ≡ front ++ byte ∷ []
before_last_sound byte text front e = turned (after (byte ∷ []) (reverse text)) refl e
  where
    turned : (rest : Option (List ℕ)) → after (byte ∷ []) (reverse text) ≡ rest → option_map reverse rest ≡ Some front → text ≡ front ++ byte ∷ []
    turned None is e = cc
    turned (Some rest) is e =
        let back : text ≡ reverse (byte ∷ rest) = sym (reverse-reverse text) ∙ ap reverse (after_sound (byte ∷ []) (reverse text) rest is) in
        back ∙ reverse-cons byte rest ∙ ap (λ l. l ++ byte ∷ []) (same_Some _ _ e)

pub before_last_complete : (byte : ℕ) (front : List ℕ) → before_last byte (front ++ byte ∷ []) ≡ Some front
before_last_complete byte front =
    ap (λ l. option_map reverse (after (byte ∷ []) l)) (reverse-append front (byte ∷ []))
    ∙ ap (option_map reverse) (after_complete (byte ∷ []) (reverse front)) ∙ ap Some (reverse-reverse front)

-- none of the bytes is this one
abbrev pub Lacks : List ℕ → ℕ → Type 0
Lacks text byte = list_any (λ other. nat_eq other byte) text ≡ false

Lacks-at : (text : List ℕ) (byte k : ℕ) → Lacks text byte → k < length text → nat_eq (get_or text k 0) byte ≡ false
Lacks-at text byte k lacks within = false_from_ne_true _ (λ same. both_ways _ lacks (list_any_at (λ other. nat_eq other byte) text k 0 within same))

-- the same in the words of the grammar
pub Lacks-Contains : (text : List ℕ) (byte : ℕ) → Lacks text byte → Contains text byte → ⊥
Lacks-Contains text byte lacks found = both_ways _ lacks (list_any_at (λ other. nat_eq other byte) text found.0 byte found.1 (eq-eqb _ _ found.2))

pub Lacks-from_no_Contains : (text : List ℕ) (byte : ℕ) → (Contains text byte → ⊥) → Lacks text byte
Lacks-from_no_Contains [] byte none = refl
Lacks-from_no_Contains (other ∷ text) byte none =
    or_from _ _ (ne_eqb other byte (λ same. none (0, omega arith, same)))
    (Lacks-from_no_Contains text byte (λ found. none (suc found.0, let within = found.1 in omega arith, found.2)))

first_split_parts : (sought : ℕ) (text : List ℕ) (place : Option ℕ) → position (λ byte. nat_eq byte sought) text ≡ place → (front back : List ℕ)
    → ◌≡◌ {A = Option (List ℕ × List ℕ)} (option_map (λ place. (take place text, drop (place + 1) text)) place) (Some (front, back))
    → (text ≡ front ++ sought ∷ back) × Lacks front sought
first_split_parts sought text None is front back e = cc
first_split_parts sought text (Some place) is front back e =
    let found = position-Some (λ byte. nat_eq byte sought) text place 0 is in
    let parts = some_pair_parts _ _ _ _ e in
    let comma : get_or text place 0 ≡ sought = eqb-true _ _ found.1 in
    let within : place < length text = found.0 in
    let whole : text ≡ take place text ++ sought ∷ drop (place + 1) text = sym (take-append-drop place text)
    ∙ ap (λ l. take place text ++ l) (drop_more text place 0 within ∙ ap (λ byte. byte ∷ drop (place + 1) text) comma) in
    let none : Lacks (take place text) sought = list_any_none (λ byte. nat_eq byte sought) (take place text)
    (All-from_get_or (λ byte. nat_eq byte sought ≡ false) (take place text) 0
    (λ k below. let few : k < place = omega (arith, length-take place text) in ap (λ byte. nat_eq byte sought) (get_or-take place text k 0 few)
    ∙ found.2 k few)) in
    (whole ∙ ap (λ l. l ++ sought ∷ drop (place + 1) text) parts.0 ∙ ap (λ l. front ++ sought ∷ l) parts.1, subst (λ l. Lacks l sought) parts.0 none)

pub first_split_sound : (sought : ℕ) (text front back : List ℕ) → first_split sought text ≡ Some (front, back)
    → (text ≡ front ++ sought ∷ back) × Lacks front sought
unfolding first_split
first_split_sound sought text front back e = first_split_parts sought text (position (λ byte. nat_eq byte sought) text) refl front back e

pub first_split_complete : (sought : ℕ) (front back : List ℕ) → Lacks front sought → first_split sought (front ++ sought ∷ back) ≡ Some (front, back)
unfolding first_split
first_split_complete sought front back lacks =
    let place : position_or_len (λ byte. nat_eq byte sought) (front ++ sought ∷ back) ≡ length front = position_or_len_is (λ byte. nat_eq byte sought)
    (front ++ sought ∷ back) (length front) 0 (omega (arith, length-append front (sought ∷ back)))
    (λ k below. ap (λ byte. nat_eq byte sought) (get_or_append_left front (sought ∷ back) 0 k below) ∙ Lacks-at front sought k lacks below)
    (λ within. ap (λ byte. nat_eq byte sought) (get_or_at front sought back 0 (length front) refl) ∙ eq-eqb sought sought refl) in
    let inside : nat_lt (length front) (length (front ++ sought ∷ back)) ≡ true = lt-ltb _ _ (omega (arith, length-append front (sought ∷ back))) in
    let rest : drop (length front + 1) (front ++ sought ∷ back) ≡ back = sym (drop-drop 1 (length front) (front ++ sought ∷ back))
    ∙ ap (drop 1) (drop-append_seam front (sought ∷ back)) in
    rw (place, inside, take-append_seam front (sought ∷ back), rest) refl

-- the last one is the first one in reverse
last_split_parts : (sought : ℕ) (text : List ℕ) (parts : Option (List ℕ × List ℕ)) → first_split sought (reverse text) ≡ parts → (front back : List ℕ)
    → ◌≡◌ {A = Option (List ℕ × List ℕ)} (option_map (λ parts. (reverse parts.1, reverse parts.0)) parts) (Some (front, back))
    → (text ≡ front ++ sought ∷ back) × Lacks back sought
last_split_parts sought text None is front back e = cc
last_split_parts sought text (Some parts) is front back e =
    let found = first_split_sound sought (reverse text) parts.0 parts.1 is in
    let same = some_pair_parts _ _ _ _ e in
    let turned : text ≡ reverse parts.1 ++ sought ∷ reverse parts.0 =
    sym (reverse-reverse text) ∙ ap reverse found.0 ∙ reverse-append parts.0 (sought ∷ parts.1)
    ∙ ap (λ l. l ++ reverse parts.0) (reverse-cons sought parts.1) ∙ append_assoc (reverse parts.1) (sought ∷ []) (reverse parts.0) in (
      turned ∙ ap (λ l. l ++ sought ∷ reverse parts.0) same.0
          ∙ ap (λ l. front ++ sought ∷ l) same.1,
      subst (λ l. Lacks l sought) same.1 (list_any-reverse (λ other. nat_eq other sought) parts.0 found.1),
    )

pub last_split_sound : (sought : ℕ) (text front back : List ℕ) → last_split sought text ≡ Some (front, back)
    → (text ≡ front ++ sought ∷ back) × Lacks back sought
unfolding last_split
last_split_sound sought text front back e = last_split_parts sought text (first_split sought (reverse text)) refl front back e

pub last_split_complete : (sought : ℕ) (front back : List ℕ) → Lacks back sought → last_split sought (front ++ sought ∷ back) ≡ Some (front, back)
unfolding last_split
last_split_complete sought front back lacks =
    let turned : reverse (front ++ sought ∷ back) ≡ reverse back ++ sought ∷ reverse front =
    reverse-append front (sought ∷ back) ∙ ap (λ l. l ++ reverse front) (reverse-cons sought back)
    ∙ append_assoc (reverse back) (sought ∷ []) (reverse front) in
    rw (
      turned,
      first_split_complete sought (reverse back) (reverse front)
          (list_any-reverse (λ other. nat_eq other sought) back lacks),
      reverse-reverse front,
      reverse-reverse back,
    ) refl

-- the digits of a number between blanks
pub field_number_sound : (text : List ℕ) (value : ℕ) → field_number text ≡ Some value → (number : ℕ) × IsNumberField text number × (value ≡ capped number)
field_number_sound text value e =
    let found = cond_some (is_number (trimmed text)) (min (number_value (trimmed text)) (2 ^ 64 - 1)) value e in
    (number_value (trimmed text), record { digits = found.0; value = refl }, sym found.1)

pub field_number_complete : (text : List ℕ) (number : ℕ) → IsNumberField text number → field_number text ≡ Some (capped number)
field_number_complete text number field = rw (field.digits) (ap (λ n. Some (capped n)) (sym field.value))

pub one_number : (text : List ℕ) (one other : ℕ) → IsNumberField text one → IsNumberField text other → one ≡ other
one_number text one other first second = first.value ∙ sym second.value

-- blanks and digits
abbrev pub is_number_byte : ℕ → Bool
is_number_byte byte = is_blank byte || is_ascii_digit byte

list_all-weaker : (p q : ℕ → Bool) (xs : List ℕ) → ((x : ℕ) → p x ≡ true → q x ≡ true) → list_all p xs ≡ true → list_all q xs ≡ true
list_all-weaker p q [] weaker all = refl
list_all-weaker p q (x ∷ xs) weaker all = let parts = and_parts (p x) (list_all p xs) all in and_from _ _ (weaker x parts.0)
    (list_all-weaker p q xs weaker parts.1)

pub number_bytes : (text : List ℕ) (number : ℕ) → IsNumberField text number → list_all is_number_byte text ≡ true
number_bytes text number field =
    let parts = trims text in
    let digits = and_parts (nat_lt 0 (length (trimmed text))) (list_all is_ascii_digit (trimmed text)) field.digits in
    ap (list_all is_number_byte) parts.whole ∙ list_all-append is_number_byte parts.front (trimmed text ++ parts.back)
    ∙ and_from _ _ (list_all-weaker is_blank is_number_byte parts.front (λ x h. or_left (is_blank x) (is_ascii_digit x) h) parts.before)
    (list_all-append is_number_byte (trimmed text) parts.back
    ∙ and_from _ _ (list_all-weaker is_ascii_digit is_number_byte (trimmed text) (λ x h. or_right (is_blank x) (is_ascii_digit x) h) digits.1)
    (list_all-weaker is_blank is_number_byte parts.back (λ x h. or_left (is_blank x) (is_ascii_digit x) h) parts.behind))

-- no comma, no quote and no parenthesis, and no byte beyond ASCII
pub number_lacks : (text : List ℕ) (number byte : ℕ) → IsNumberField text number → is_number_byte byte ≡ false → Lacks text byte
number_lacks text number byte field other = list_any-other is_number_byte byte text (number_bytes text number field) other

pub number_lacks_comma : (text : List ℕ) (number : ℕ) → IsNumberField text number → Lacks text 44
number_lacks_comma text number field = number_lacks text number 44 field refl

abbrev pub is_ascii_byte : ℕ → Bool
is_ascii_byte byte = nat_lt byte 128

pub number_is_ascii : (text : List ℕ) (number : ℕ) → IsNumberField text number → list_all is_ascii_byte text ≡ true
number_is_ascii text number field = list_all-weaker is_number_byte is_ascii_byte text number_byte_is_ascii (number_bytes text number field)
  where
    number_byte_is_ascii : (byte : ℕ) → is_number_byte byte ≡ true → is_ascii_byte byte ≡ true
    number_byte_is_ascii byte h = grind (arith, common_steps)

-- the same in std's word
pub IsAscii-from_list_all : (text : List ℕ) → list_all is_ascii_byte text ≡ true → IsAscii text
IsAscii-from_list_all text all i = elim (cases_lt i (length text)) [
  | inl within ↦ ltb-true _ _ (list_all-at is_ascii_byte text i all within)
  | inr past ↦ let none = get_or_past text i 0 past in omega arith
]
