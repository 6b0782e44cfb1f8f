-- A label as it stands in a text, byte by byte and letter by letter.
use Rattle.std.proofs.Common.{◌≡◌, ◌∙◌, ℕ, ◌+◌, ◌<◌, cond, List, [], ◌∷◌, ◌++◌, length, take, drop, get_or, sym, ap, arith, append_assoc, append-nil, length-append, take-append-drop}
use Rattle.std.specs.Prelude.{◌≢◌, Result, Ok, Err, OnOk, is_ok}
use Rattle.std.specs.Str.{encode_utf8_all}
use Rattle.std.specs.Char.{encode_utf8}
use Rattle.std.proofs.lemmas.List.{take_more}
use Rattle.std.proofs.lemmas.List.Elements.{All-from_get_or}
use Rattle.std.proofs.lemmas.Str.{inside_one, encodes-append}
use Rattle.spectro_spec.specs.System.{Label}
use Rattle.spectro_io.specs.QuotedLabels.{escaped}
use Rattle.spectro_io.proofs.QuotedLabels.{escaped-append}
use Rattle.spectro_hmltext.specs.Printed.{label_text}
use Rattle.spectro_hmltext.proofs.CharacterLaws.{IsPlain, escaped-plain}

-- one byte more
escaped-more : (label : List ℕ) (k : ℕ) (d : ℕ) → k < length label → escaped (take (k + 1) label) ≡ escaped (take k label) ++ escaped (get_or label k d ∷ [])
escaped-more label k d within = ap escaped (take_more label k d within) ∙ escaped-append (take k label) (get_or label k d ∷ [])

-- the label behind what is held, with the bytes up to a place, and one more
pub label-more : (held : List ℕ) (label : Label) (k d : ℕ) → k < length label
    → (held ++ 34 ∷ escaped (take k label)) ++ escaped (get_or label k d ∷ []) ≡ held ++ 34 ∷ escaped (take (k + 1) label)
label-more held label k d within = append_assoc held (34 ∷ escaped (take k label)) (escaped (get_or label k d ∷ []))
    ∙ ap (λ bytes. held ++ 34 ∷ bytes) (sym (escaped-more label k d within))

-- the label in quotes, cut behind a byte
pub label-parts : (held : List ℕ) (label : Label) (k d : ℕ) → k < length label
    → held ++ label_text label ≡ ((held ++ 34 ∷ escaped (take k label)) ++ escaped (get_or label k d ∷ [])) ++ (escaped (drop (k + 1) label) ++ 34 ∷ [])
label-parts held label k d within =
    let cut : escaped label ≡ escaped (take (k + 1) label) ++ escaped (drop (k + 1) label) = ap escaped (sym (take-append-drop (k + 1) label))
    ∙ escaped-append (take (k + 1) label) (drop (k + 1) label) in
    ap (λ bytes. held ++ (34 ∷ bytes ++ 34 ∷ [])) cut
    ∙ ap (λ bytes. held ++ 34 ∷ bytes) (append_assoc (escaped (take (k + 1) label)) (escaped (drop (k + 1) label)) (34 ∷ []))
    ∙ sym (append_assoc held (34 ∷ escaped (take (k + 1) label)) (escaped (drop (k + 1) label) ++ 34 ∷ []))
    ∙ ap (λ bytes. bytes ++ (escaped (drop (k + 1) label) ++ 34 ∷ [])) (sym (label-more held label k d within))

-- ---- how long it is
-- one byte more
pub escaped-longer : (label : List ℕ) (k d : ℕ) → k < length label
    → length (escaped (take (k + 1) label)) ≡ length (escaped (take k label)) + length (escaped (get_or label k d ∷ []))
escaped-longer label k d within = ap length (escaped-more label k d within) ∙ length-append (escaped (take k label)) (escaped (get_or label k d ∷ []))

-- ---- letter by letter
-- a letter that is neither a quote nor a backslash stands as it is
pub escaped-letter : (letter : ℕ) → letter ≢ 34 → letter ≢ 92 → escaped (encode_utf8 letter) ≡ encode_utf8 letter
escaped-letter letter quote backslash = escaped-plain (encode_utf8 letter)
    (All-from_get_or IsPlain (encode_utf8 letter) 0 (λ k within. (other 34 (omega arith) quote k within, other 92 (omega arith) backslash k within)))
  where
    other : (special : ℕ) → special < 128 → letter ≢ special → (k : ℕ) → k < length (encode_utf8 letter) → get_or (encode_utf8 letter) k 0 ≢ special
    other special small not k within is =
        not (inside_one letter [] (encode_utf8 letter) k (sym (append-nil (encode_utf8 letter))) within (omega (arith, is)) ∙ is)

-- a letter was put
pub letter-put : {E : Type 0} (result : Result (Unit {0}) E) (old new bytes : List ℕ) → new ≡ cond (is_ok result) (old ++ bytes) old
    → OnOk result (new ≡ old ++ bytes)
letter-put (Ok done) old new bytes put = put
letter-put (Err e) old new bytes put = tt

-- one letter more
pub letters-more : (old mid new letters : List ℕ) (letter : ℕ) → mid ≡ old ++ escaped (encode_utf8_all letters) → new ≡ mid ++ escaped (encode_utf8 letter)
    → new ≡ old ++ escaped (encode_utf8_all (letters ++ letter ∷ []))
letters-more old mid new letters letter so_far one =
    let longer : encode_utf8_all (letters ++ letter ∷ []) ≡ encode_utf8_all letters ++ encode_utf8 letter = encodes-append letters (letter ∷ [])
    ∙ ap (λ bytes. encode_utf8_all letters ++ bytes) (append-nil (encode_utf8 letter)) in
    one ∙ ap (λ bytes. bytes ++ escaped (encode_utf8 letter)) so_far ∙ append_assoc old (escaped (encode_utf8_all letters)) (escaped (encode_utf8 letter))
    ∙ ap (λ bytes. old ++ bytes) (sym (escaped-append (encode_utf8_all letters) (encode_utf8 letter)) ∙ ap escaped (sym longer))
