-- One line of a notion text: a name and the six parts of a bound, and what it adds to the notions of earlier lines.
use Rattle.std.specs.Prelude.{ℕ, ◌≡◌, ◌<◌, ◌==◌, ◌&&◌, ◌||◌, nat_le, nat_lt, Bool, true, false, List, [], ◌∷◌, ◌++◌, length, codes, Option, None, Some}
use Rattle.std.specs.Char.{is_ascii_digit, is_ascii_lowercase}
use Rattle.std.specs.List.{list_all}
use Rattle.spectro_io.specs.Blanks.{AreBlanks, IsApart}
use Rattle.spectro_io.specs.Numbers.{is_number, number_value}
use Rattle.spectro_spec.specs.Notion.{Notion}
use Rattle.spectro_notions.specs.Bounds.{bound_of}
use Rattle.spectro_notions.specs.Tables.{has_name}
use Rattle.spectro_notions.specs.declared.notions.TheConstants.{MAX_NOTIONS}
use Rattle.spectro_notions.specs.declared.words.TheConstants.{MAX_NAME_BYTES}

-- a lower-case letter, a digit or a hyphen
abbrev pub is_name_byte : ℕ → Bool
is_name_byte byte = is_ascii_lowercase byte || is_ascii_digit byte || (byte == 45)

-- one such byte or more, and not too many
abbrev pub is_name : List ℕ → Bool
is_name bytes = nat_lt 0 (length bytes) && nat_le (length bytes) MAX_NAME_BYTES && list_all is_name_byte bytes

-- the word is `*` for no bound, or digits for their value
abbrev pub IsPart : List ℕ → Option ℕ → Type 0
IsPart word None = word ≡ codes "*"
IsPart word (Some most) = (is_number word ≡ true) × (most ≡ number_value word)

-- blanks, if any, then the word, and after it nothing, or a blank and what follows
pub record BeginsWith (text word rest : List ℕ) : Type 0 where
  pub front : List ℕ
  pub whole : text ≡ front ++ word ++ rest
  pub blanks : AreBlanks front
  pub apart : IsApart rest

-- the first word is of this part of a bound
pub record BeginsPart (text : List ℕ) (part : Option ℕ) (rest : List ℕ) : Type 0 where
  pub word : List ℕ
  pub first : BeginsWith text word rest
  pub is_part : IsPart word part

-- words of these parts, and no more
abbrev pub AreParts : List ℕ → List (Option ℕ) → Type 0
AreParts text [] = AreBlanks text
AreParts text (part ∷ parts) = (rest : List ℕ) × BeginsPart text part rest × AreParts rest parts

-- a name and six parts of a bound, with one or more blanks between two of them; blanks may stand at both ends
pub record HasForm (line name : List ℕ) (parts : List (Option ℕ)) : Type 0 where
  pub rest : List ℕ
  pub first : BeginsWith line name rest
  pub is_name : is_name name ≡ true
  pub six : length parts ≡ 6
  pub others : AreParts rest parts

-- no bound, or one of 32 bits
abbrev pub is_small : Option ℕ → Bool
is_small None = true
is_small (Some most) = nat_le most 4294967295

-- the line has the name and the bound of the notion, and each part of the bound is at most 4,294,967,295
pub record IsNotionLine (line : List ℕ) (notion : Notion) : Type 0 where
  pub parts : List (Option ℕ)
  pub form : HasForm line notion.name parts
  pub bound : notion.bound ≡ bound_of parts
  pub small : list_all is_small parts ≡ true

-- the name is new, and there is room for one more
pub record HasPlace (table : List Notion) (notion : Notion) : Type 0 where
  pub new : has_name table notion.name ≡ false
  pub room : length table < MAX_NOTIONS

-- the notions so far, and then that of the line, are these together
pub record Gives (table : List Notion) (line : List ℕ) (next : List Notion) : Type 0 where
  pub notion : Notion
  pub is_notion : IsNotionLine line notion
  pub place : HasPlace table notion
  pub list : next ≡ table ++ notion ∷ []
