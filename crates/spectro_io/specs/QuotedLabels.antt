-- Labels in double quotes. Between these each quote and each backslash of the label stands behind a backslash.
use Rattle.std.specs.Prelude.{ℕ, ◌≡◌, ◌≤◌, ◌==◌, ◌&&◌, ◌||◌, not, Bool, true, false, List, [], ◌∷◌, ◌++◌, length, if◌then◌else◌}
use Rattle.spectro_io.specs.LineReaders.{has_line_feed}
use Rattle.spectro_io.specs.declared.quoted.TheConstants.{MAX_LABEL_BYTES}

-- a quote or a backslash
abbrev pub is_escaped : ℕ → Bool
is_escaped byte = (byte == 34) || (byte == 92)

-- the label as it stands between the quotes
abbrev pub escaped : List ℕ → List ℕ
escaped [] = []
escaped (byte ∷ bytes) = if is_escaped byte then 92 ∷ byte ∷ escaped bytes else byte ∷ escaped bytes

-- a backslash takes the byte behind it with it, and no other byte is a quote; one may stand before these bytes
abbrev pub is_closed_behind : Bool → List ℕ → Bool
is_closed_behind backslash [] = not backslash
is_closed_behind backslash (byte ∷ bytes) = if not backslash && (byte == 34) then false else is_closed_behind (not backslash && (byte == 92)) bytes

-- the text begins with a quote, and the next one that no backslash takes with it is its last byte
pub record IsInQuotes (text inside : List ℕ) : Type 0 where
  pub whole : text ≡ 34 ∷ inside ++ 34 ∷ []
  pub closed : is_closed_behind false inside ≡ true

-- the text begins with a quote, and behind the next one that no backslash takes with it the rest is left
pub record BeginsInQuotes (text inside rest : List ℕ) : Type 0 where
  pub whole : text ≡ 34 ∷ inside ++ 34 ∷ rest
  pub closed : is_closed_behind false inside ≡ true

-- this stands for the label between the quotes; a label has so many bytes at most, and none of them ends a line
pub record IsQuoted (inside label : List ℕ) : Type 0 where
  pub whole : inside ≡ escaped label
  pub short : length label ≤ MAX_LABEL_BYTES
  pub one_line : has_line_feed label ≡ false
