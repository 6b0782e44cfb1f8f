-- Words, and those of the code.
use Rattle.std.specs.Prelude.{ℕ, List, map, String, string_bytes, Option}
use Rattle.std.specs.Borrow.{Bor}
use Rattle.std.specs.Option.{option_map}
use Rattle.std.specs.declared.alloc.Global.{Global}

-- a word, byte by byte
abbrev pub Word : Type 0
Word = List ℕ

-- the words as the code has them
abbrev pub words_of : List (String Global) → List Word
words_of words = map string_bytes words

-- the word, if one is given
abbrev pub named : Option (Bor (List ℕ)) → Option Word
named word = option_map (λ word. word.now) word
