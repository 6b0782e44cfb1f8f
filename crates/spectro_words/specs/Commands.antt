-- Commands with their words.
use Rattle.std.specs.Prelude.{ℕ, Option}
use Rattle.spectro_words.specs.Words.{Word}
use Rattle.spectro_words.specs.Demos.{IsDemo}
use Rattle.spectro_words.specs.Limits.{IsLimit}

pub data Command : Type 0 where
  -- the text of a formula, the name of a file, and that of a file of weights, if one is asked for
  eval : Word → Word → Option Word → Command
  -- the name of a file
  rewrite : Word → Command
  -- the text of a formula, and the name of a file of weights, if one is asked for
  price : Word → Option Word → Command
  -- the names of two files, and the limit of positions
  size : Word → Word → ℕ → Command
  -- the names of two files, that of a file of weights and that of one of notions, if they are asked for, and the limit of positions
  compare : Word → Word → Option Word → Option Word → ℕ → Command
  -- the number of a demo
  demo : ℕ → Command

-- the number of the command, if it has one, may be one: a limit of positions, or the number of a demo
abbrev pub IsInRange : Command → Type 0
IsInRange (size left right limit) = IsLimit limit
IsInRange (compare left right weights notions limit) = IsLimit limit
IsInRange (demo number) = IsDemo number
IsInRange command = Unit {0}
