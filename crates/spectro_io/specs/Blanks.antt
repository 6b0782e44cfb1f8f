-- Spaces and tabs.
use Rattle.std.specs.Prelude.{ℕ, ◌≡◌, ◌==◌, ◌||◌, Bool, true, List, [], ◌∷◌, reverse, if◌then◌else◌}
use Rattle.std.specs.List.{list_all}

abbrev pub is_blank : ℕ → Bool
is_blank byte = (byte == 32) || (byte == 9)

-- the bytes from the first that is no blank
abbrev pub skip_blanks : List ℕ → List ℕ
skip_blanks [] = []
skip_blanks (byte ∷ bytes) = if is_blank byte then skip_blanks bytes else byte ∷ bytes

-- the bytes without the blanks at both ends
abbrev pub trimmed : List ℕ → List ℕ
trimmed bytes = reverse (skip_blanks (reverse (skip_blanks bytes)))

-- nothing but blanks
abbrev pub AreBlanks : List ℕ → Type 0
AreBlanks bytes = list_all is_blank bytes ≡ true

-- nothing, or a blank first
abbrev pub IsApart : List ℕ → Type 0
IsApart [] = Unit {0}
IsApart (byte ∷ bytes) = is_blank byte ≡ true
