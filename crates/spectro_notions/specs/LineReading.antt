-- What the code finds in a line.
use Rattle.std.specs.Prelude.{[], ◌∷◌, ◌++◌, map, ℕ, ◌≡◌, ◌<◌, List, codes, Option, None, Some, zero, suc, length, slice_index_or, if◌then◌else◌}
use Rattle.std.specs.Option.{option_map}
use Rattle.std.specs.Str.{bytes_eq}
use Rattle.spectro_io.specs.Numbers.{capped, number_of}
use Rattle.spectro_io.specs.Tokens.{first_token, after_token}
use Rattle.spectro_spec.specs.Notion.{Notion}
use Rattle.spectro_notions.specs.NotionLines.{HasForm, HasPlace}
use Rattle.spectro_notions.specs.declared.line.Fields.{Fields}

-- the part, or the greatest of 64 bits where it is greater
abbrev pub capped_part : Option ℕ → Option ℕ
capped_part part = option_map capped part

-- the part that the word says, as far as 64 bits go
abbrev pub part_in : List ℕ → Option (Option ℕ)
part_in word = if bytes_eq word (codes "*") then Some None else option_map Some (number_of word)

-- what is left of the text after so many words
abbrev pub after_words : ℕ → List ℕ → List ℕ
after_words zero text = text
after_words (suc k) text = after_token (after_words k text)

-- one of the first six words says no part
abbrev pub LacksPart : List ℕ → Type 0
LacksPart text = (k : ℕ) × (k < 6) × (part_in (first_token (after_words k text)) ≡ None)

-- so many words say the first of the six parts, and this is left of the text after them
pub record AreRead (text : List ℕ) (count : ℕ) (parts : List (Option ℕ)) (rest : List ℕ) : Type 0 where
  pub six : length parts ≡ 6
  pub said : (k : ℕ) → k < count → part_in (first_token (after_words k text)) ≡ Some (slice_index_or parts k None)
  pub left : rest ≡ after_words count text

-- the line has not the form, whatever the name and the parts
abbrev pub LacksForm : List ℕ → Type 0
LacksForm line = (name : List ℕ) (parts : List (Option ℕ)) → ¬ HasForm line name parts

-- the line has the name and parts of which these are as far as 64 bits go
pub record AreFieldsOf (line : List ℕ) (fields : Fields) : Type 0 where
  pub parts : List (Option ℕ)
  pub form : HasForm line fields.name.now parts
  pub capped : fields.parts ≡ map capped_part parts

-- the notion was put after the others, where it has its place
pub record IsPlaced (old : List Notion) (notion : Notion) (new : List Notion) : Type 0 where
  pub place : HasPlace old notion
  pub list : new ≡ old ++ notion ∷ []
