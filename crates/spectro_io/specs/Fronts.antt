-- Texts from left to right: what is read at the front of a text, and what is left after it.
use Rattle.std.specs.Prelude.{ℕ, List, length, take, drop, Option, None, Some, if◌then◌else◌}
use Rattle.std.specs.Str.{bytes_eq}

-- the second reading from what the first one read
infixl 10 ◌>>=◌
abbrev pub ◌>>=◌ : {A B : Type 0} → Option A → (A → Option B) → Option B
None >>= read = None
(Some x) >>= read = read x

-- what is left after the words, where the text begins with them
abbrev pub after : List ℕ → List ℕ → Option (List ℕ)
after words text = if bytes_eq (take (length words) text) words then Some (drop (length words) text) else None
