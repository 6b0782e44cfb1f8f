-- The lines of a text: each ends before an LF or with the text, and one CR at its end is no part of it.
use Rattle.std.specs.Prelude.{ℕ, ◌-◌, ◌==◌, List, [], ◌∷◌, length, take, slice_index, if◌then◌else◌}
use Rattle.std.specs.List.{before_first, after_first}

-- the line without one CR at its end
abbrev pub without_cr : List ℕ → List ℕ
without_cr line = if slice_index line (length line - 1) == 13 then take (length line - 1) line else line

-- the first line of the bytes, without its line end
abbrev pub first_line : List ℕ → List ℕ
first_line bytes = without_cr (before_first (λ byte. byte == 10) bytes)

-- what stands after the first LF of the bytes
abbrev pub after_line : List ℕ → List ℕ
after_line bytes = after_first (λ byte. byte == 10) bytes

-- the byte stands at the front of the first line
abbrev pub with_byte : ℕ → List (List ℕ) → List (List ℕ)
with_byte byte [] = (byte ∷ []) ∷ []
with_byte byte (line ∷ lines) = (byte ∷ line) ∷ lines

-- the lines of the bytes, each with the LF that ends it; what follows the last LF is a line unless it is empty
abbrev pub lines_of : List ℕ → List (List ℕ)
lines_of [] = []
lines_of (byte ∷ bytes) = if byte == 10 then (10 ∷ []) ∷ lines_of bytes else with_byte byte (lines_of bytes)
