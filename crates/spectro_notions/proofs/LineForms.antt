-- A line has one name and six parts at most, and the code finds them.
use Rattle.std.proofs.Common.{◌≡◌, ◌∙◌, ℕ, zero, suc, ◌<◌, true, false, List, [], ◌∷◌, length, get_or, map, refl, sym, ap, subst, inl, inr, arith}
use Rattle.std.specs.Prelude.{Option, None, Some, ◌⊎◌}
use Rattle.std.proofs.lemmas.Bool.{both_ways, cases_Bool}
use Rattle.std.proofs.lemmas.List.{length-map}
use Rattle.std.proofs.lemmas.Option.{none-some}
use Rattle.spectro_io.specs.Blanks.{AreBlanks, is_blank}
use Rattle.std.specs.List.{list_all}
use Rattle.spectro_io.specs.Tokens.{first_token, after_token}
use Rattle.spectro_io.proofs.Tokens.{IsWord, parts_at_token, first_token-word, after_token-word}
use Rattle.spectro_notions.specs.LineReading.{capped_part, part_in, after_words, AreRead, LacksForm, LacksPart}
use Rattle.spectro_notions.specs.NotionLines.{IsPart, BeginsWith, BeginsPart, AreParts, HasForm, is_name}
use Rattle.spectro_notions.proofs.PartWords.{name-IsWord, part-IsWord, part-once, part_in-part, part_in-found, part-cases}

-- ---- the first word
module _ (text word rest : List ℕ) (is : IsWord word) (begins : BeginsWith text word rest) where
  pub token_is : first_token text ≡ word
  token_is = first_token-word text begins.front word rest begins.whole begins.blanks is begins.apart

  pub after_is : after_token text ≡ rest
  after_is = after_token-word text begins.front word rest begins.whole begins.blanks is begins.apart

-- each text begins with its first token
pub token-begins : (text : List ℕ) → BeginsWith text (first_token text) (after_token text)
token-begins text =
    let parts = parts_at_token text in
    record { front = parts.front; whole = parts.whole; blanks = parts.blanks; apart = parts.apart }

-- the first word is of the part, and this stands behind it
record IsFirstPart (text : List ℕ) (part : Option ℕ) (rest : List ℕ) : Type 0 where
  pub is_part : IsPart (first_token text) part
  pub behind : after_token text ≡ rest

first_part : (text : List ℕ) (part : Option ℕ) (rest : List ℕ) → BeginsPart text part rest → IsFirstPart text part rest
first_part text part rest begins =
    let word = part-IsWord begins.word part begins.is_part in
    record {
      is_part = subst (λ word. IsPart word part) (sym (token_is text begins.word rest word begins.first)) begins.is_part;
      behind = after_is text begins.word rest word begins.first;
    }

part-begins : (text : List ℕ) (part : Option ℕ) → IsPart (first_token text) part → BeginsPart text part (after_token text)
part-begins text part is = record { word = first_token text; first = token-begins text; is_part = is }

-- ---- words behind one another
after_words-next : (count : ℕ) (text : List ℕ) → after_words count (after_token text) ≡ after_words (suc count) text
after_words-next zero text = refl
after_words-next (suc count) text = ap after_token (after_words-next count text)

-- parts, and the blanks behind them, are found word by word
pub parts-found : (parts : List (Option ℕ)) (text : List ℕ) → AreParts text parts → (k : ℕ) → k < length parts
    → part_in (first_token (after_words k text)) ≡ Some (capped_part (get_or parts k None))
parts-found [] text are k within = absurd (omega arith)
parts-found (part ∷ parts) text are zero within = part_in-part (first_token text) part (first_part text part are.0 are.1).is_part
parts-found (part ∷ parts) text are (suc k) within =
    let first = first_part text part are.0 are.1 in
    let later = parts-found parts are.0 are.2 k (omega arith) in
    ap (λ text. part_in (first_token text)) (sym (after_words-next k text) ∙ ap (after_words k) first.behind) ∙ later

pub parts-end : (parts : List (Option ℕ)) (text : List ℕ) → AreParts text parts → AreBlanks (after_words (length parts) text)
parts-end [] text are = are
parts-end (part ∷ parts) text are =
    let first = first_part text part are.0 are.1 in
    subst AreBlanks (sym (ap (after_words (length parts)) first.behind) ∙ after_words-next (length parts) text) (parts-end parts are.0 are.2)

-- words that say parts, with blanks behind them, are parts
pub record ArePartsFor (text : List ℕ) (found : List (Option ℕ)) : Type 0 where
  pub parts : List (Option ℕ)
  pub are : AreParts text parts
  pub told : found ≡ map capped_part parts

pub found-parts : (found : List (Option ℕ)) (text : List ℕ)
    → ((k : ℕ) → k < length found → part_in (first_token (after_words k text)) ≡ Some (get_or found k None))
    → AreBlanks (after_words (length found) text) → ArePartsFor text found
found-parts [] text said blank = record { parts = []; are = blank; told = refl }
found-parts (one ∷ found) text said blank =
    let first = part_in-found (first_token text) one (said 0 (omega arith)) in
    let later = found-parts found (after_token text)
    (λ k within. ap (λ text. part_in (first_token text)) (after_words-next k text) ∙ said (suc k) (omega arith))
    (subst AreBlanks (sym (after_words-next (length found) text)) blank) in
    record {
      parts = first.0 ∷ later.parts;
      are = (after_token text, part-begins text first.0 first.1, later.are);
      told = ap (λ part. part ∷ found) first.2 ∙ ap (λ parts. capped_part first.0 ∷ parts) later.told;
    }

-- ---- the parts of a text are one
pub parts-once : (one two : List (Option ℕ)) (text : List ℕ) → length one ≡ length two → AreParts text one → AreParts text two → one ≡ two
parts-once [] [] text same first second = refl
parts-once [] (part ∷ two) text same first second = absurd (omega arith)
parts-once (part ∷ one) [] text same first second = absurd (omega arith)
parts-once (part ∷ one) (other ∷ two) text same first second =
    let here = first_part text part first.0 first.1 in
    let there = first_part text other second.0 second.1 in
    let behind : first.0 ≡ second.0 = sym here.behind ∙ there.behind in
    let heads : part ≡ other = part-once (first_token text) part other here.is_part there.is_part in
    let tails : one ≡ two = parts-once one two second.0 (omega arith) (subst (λ rest. AreParts rest one) behind first.2) second.2 in
    rw (heads, tails) refl

-- a text is of so many parts, or of none
abbrev HasParts : ℕ → List ℕ → Type 0
HasParts count text = (parts : List (Option ℕ)) × (length parts ≡ count) × AreParts text parts

parts-cases : (count : ℕ) (text : List ℕ) → HasParts count text ⊎ ((parts : List (Option ℕ)) → length parts ≡ count → ¬ AreParts text parts)
parts-cases zero text = elim (cases_Bool (list_all is_blank text)) [ inl blank ↦ inl ([], refl, blank) | inr some ↦ inr (none some) ]
  where
    none : list_all is_blank text ≡ false → (parts : List (Option ℕ)) → length parts ≡ 0 → ¬ AreParts text parts
    none some [] empty are = both_ways (list_all is_blank text) some are
    none some (part ∷ parts) empty are = omega arith
parts-cases (suc count) text = by (part-cases (first_token text)) (parts-cases count (after_token text))
  where
    by : ((part : Option ℕ) × IsPart (first_token text) part) ⊎ ((part : Option ℕ) → ¬ IsPart (first_token text) part)
        → HasParts count (after_token text) ⊎ ((parts : List (Option ℕ)) → length parts ≡ count → ¬ AreParts (after_token text) parts)
        → HasParts (suc count) text ⊎ ((parts : List (Option ℕ)) → length parts ≡ suc count → ¬ AreParts text parts)
    by (inl first) (inl later) =
        inl (first.0 ∷ later.0, ap suc later.1, (after_token text, part-begins text first.0 first.1, later.2))
    by (inl first) (inr none) = inr no
      where
        no : (parts : List (Option ℕ)) → length parts ≡ suc count → ¬ AreParts text parts
        no [] is are = omega arith
        no (part ∷ parts) is are =
            let behind = (first_part text part are.0 are.1).behind in
            none parts (omega arith) (subst (λ rest. AreParts rest parts) (sym behind) are.2)
    by (inr none) later = inr no
      where
        no : (parts : List (Option ℕ)) → length parts ≡ suc count → ¬ AreParts text parts
        no [] is are = omega arith
        no (part ∷ parts) is are = none part (first_part text part are.0 are.1).is_part

-- ---- whole lines
module _ (line name : List ℕ) (parts : List (Option ℕ)) (form : HasForm line name parts) where
  pub name_is : first_token line ≡ name
  name_is = token_is line name form.rest (name-IsWord name form.is_name) form.first

  pub token-is_name : is_name (first_token line) ≡ true
  token-is_name = ap is_name name_is ∙ form.is_name

  pub parts_behind : AreParts (after_token line) parts
  parts_behind = subst (λ rest. AreParts rest parts) (sym (after_is line name form.rest (name-IsWord name form.is_name) form.first)) form.others

-- a name, and six parts behind it, are a line
pub found-HasForm : (line : List ℕ) (parts : List (Option ℕ)) → is_name (first_token line) ≡ true → length parts ≡ 6 → AreParts (after_token line) parts
    → HasForm line (first_token line) parts
found-HasForm line parts name six are = record { rest = after_token line; first = token-begins line; is_name = name; six = six; others = are }

pub name-once : (line name other : List ℕ) (parts others : List (Option ℕ)) → HasForm line name parts → HasForm line other others → name ≡ other
name-once line name other parts others one two = sym (name_is line name parts one) ∙ name_is line other others two

pub form-parts-once : (line name other : List ℕ) (parts others : List (Option ℕ)) → HasForm line name parts → HasForm line other others → parts ≡ others
form-parts-once line name other parts others one two =
    parts-once parts others (after_token line) (one.six ∙ sym two.six) (parts_behind line name parts one) (parts_behind line other others two)

pub form-cases : (line : List ℕ) → ((parts : List (Option ℕ)) × HasForm line (first_token line) parts) ⊎ LacksForm line
form-cases line =
    elim (cases_Bool (is_name (first_token line))) [
      | inl name ↦ elim (parts-cases 6 (after_token line)) [
        | inl found ↦ inl (found.0, found-HasForm line found.0 name found.1 found.2)
        | inr none ↦ inr (λ other parts form. none parts form.six (parts_behind line other parts form))
      ]
      | inr not_so ↦ inr (λ other parts form. both_ways (is_name (first_token line)) not_so (token-is_name line other parts form))
    ]

-- ---- what the code finds
-- the line has the name and parts of which these are as far as 64 bits go
pub record HasFormFor (line name : List ℕ) (found : List (Option ℕ)) : Type 0 where
  pub parts : List (Option ℕ)
  pub form : HasForm line name parts
  pub capped : found ≡ map capped_part parts

module _ (line rest : List ℕ) (behind : rest ≡ after_token line) where
  -- where the first word is no name, the line has not the form
  pub lacks_name : (word : List ℕ) → word ≡ first_token line → is_name word ≡ false → LacksForm line
  lacks_name word is other name parts form = both_ways (is_name word) other (ap is_name is ∙ token-is_name line name parts form)

  behind_name : (name : List ℕ) (parts : List (Option ℕ)) → HasForm line name parts → AreParts rest parts
  behind_name name parts form = subst (λ rest. AreParts rest parts) (sym behind) (parts_behind line name parts form)

  -- where one of the six words behind it is no part
  pub lacks_part : LacksPart rest → LacksForm line
  lacks_part lacks name parts form =
      none-some (capped_part (get_or parts lacks.0 None))
      (sym lacks.2 ∙ parts-found parts rest (behind_name name parts form) lacks.0 (omega (arith, lacks.1, form.six)))

  module _ (found : List (Option ℕ)) (left : List ℕ) (read : AreRead rest 6 found left) where
    -- where more than blanks is left behind them
    pub lacks_end : ¬ AreBlanks left → LacksForm line
    lacks_end more name parts form =
        more (subst AreBlanks (sym read.left)
        (subst (λ count. AreBlanks (after_words count rest)) form.six (parts-end parts rest (behind_name name parts form))))

    -- else the line has it
    pub has_form : (word : List ℕ) → word ≡ first_token line → is_name word ≡ true → AreBlanks left → HasFormFor line word found
    has_form word is name blank =
        let for : ArePartsFor rest found = found-parts found rest (λ k within. read.said k (omega (arith, within, read.six)))
        (subst (λ count. AreBlanks (after_words count rest)) (sym read.six) (subst AreBlanks read.left blank)) in
        let six : length for.parts ≡ 6 = sym (length-map for.parts capped_part) ∙ sym (ap length for.told) ∙ read.six in
        let form = found-HasForm line for.parts (sym (ap is_name is) ∙ name) six (subst (λ rest. AreParts rest for.parts) behind for.are) in
        record { parts = for.parts; form = subst (λ name. HasForm line name for.parts) (sym is) form; capped = for.told }
