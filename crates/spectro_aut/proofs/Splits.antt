-- The last such byte of a text is the first from its end.
use Rattle.std.proofs.Common.{◌≡◌, ◌∙◌, ◌==◌, ℕ, ◌+◌, ◌-◌, ◌<◌, ◌≤◌, List, ◌++◌, length, take, drop, reverse, position, Some, None, refl, sym, subst, arith}
use Rattle.std.proofs.lemmas.List.{reverse-reverse, reverse-append, length-reverse, length-drop, take-append-drop}
use Rattle.std.proofs.Math.Seq.{take-append_seam, drop-append_seam, take-length}
use Rattle.spectro_aut.specs.Reading.{first_split, last_split}

pub last_split-none : (sought : ℕ) (text : List ℕ) → position (λ byte. byte == sought) (reverse text) ≡ None → last_split sought text ≡ None
unfolding last_split first_split
last_split-none sought text none = rw none refl

-- the two parts of a text that is cut before so many bytes from its end
module _ (front back : List ℕ) where
  take-reverse : reverse (take (length back) (reverse (front ++ back))) ≡ back
  take-reverse = rw (reverse-append front back, sym (length-reverse back), take-append_seam (reverse back) (reverse front)) (reverse-reverse back)

  drop-reverse : reverse (drop (length back) (reverse (front ++ back))) ≡ front
  drop-reverse = rw (reverse-append front back, sym (length-reverse back), drop-append_seam (reverse back) (reverse front)) (reverse-reverse front)

from_end : (text : List ℕ) (place : ℕ) → place ≤ length text
    → (reverse (take place (reverse text)) ≡ drop (length text - place) text) × (reverse (drop place (reverse text)) ≡ take (length text - place) text)
from_end text place within =
    let front = take (length text - place) text in
    let back = drop (length text - place) text in
    let whole : front ++ back ≡ text = take-append-drop (length text - place) text in
    let long : length back ≡ place = length-drop (length text - place) text ∙ omega arith in
    let Parts : ℕ → List ℕ → Type 0 = λ n all. (reverse (take n (reverse all)) ≡ back) × (reverse (drop n (reverse all)) ≡ front) in
    subst (λ n. Parts n text) long (subst (Parts (length back)) whole (take-reverse front back, drop-reverse front back))

pub last_split-at : (sought : ℕ) (text : List ℕ) (place : ℕ) → position (λ byte. byte == sought) (reverse text) ≡ Some place → place < length text
    → last_split sought text ≡ Some
    (take (length text - 1 - place) text, take (length text - (length text - 1 - place + 1)) (drop (length text - 1 - place + 1) text))
unfolding last_split first_split
last_split-at sought text place at within =
    let front = (from_end text (place + 1) (omega arith)).1 in
    let back = (from_end text place (omega arith)).0 in
    let same_front : length text - (place + 1) ≡ length text - 1 - place = omega arith in
    let same_back : length text - place ≡ length text - 1 - place + 1 = omega arith in
    let rest = drop (length text - 1 - place + 1) text in
    let long : length rest ≡ length text - (length text - 1 - place + 1) = length-drop (length text - 1 - place + 1) text in
    let all : take (length text - (length text - 1 - place + 1)) rest ≡ rest = subst (λ n. take n rest ≡ rest) long (take-length rest) in
    rw (at, front, back, same_front, same_back, all) refl
