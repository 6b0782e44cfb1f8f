-- The first token of a line, and what stands behind it.
use Rattle.std.specs.Prelude.{ℕ, List, length, drop}
use Rattle.std.specs.List.{before_first}
use Rattle.spectro_io.specs.Blanks.{is_blank, skip_blanks}

-- the bytes before the first blank, once the blanks at the front are dropped
abbrev pub first_token : List ℕ → List ℕ
first_token line = before_first is_blank (skip_blanks line)

-- what is left once the token is dropped too: nothing, or a blank and what follows it
abbrev pub after_token : List ℕ → List ℕ
after_token line = drop (length (first_token line)) (skip_blanks line)
