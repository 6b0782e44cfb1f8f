-- A text of a system that comes in pieces.
use Rattle.std.specs.Prelude.{ℕ, List}
use Rattle.spectro_lines.specs.Feeding as lines
use Rattle.spectro_aut.specs.Grammar.{Reading}
use Rattle.spectro_aut.specs.Texts.{aut_form}
use Rattle.spectro_aut.specs.declared.error.AutKind.{AutKind}

-- how far the reading has come
abbrev pub Fed : Type 0
Fed = lines.Fed Reading AutKind

-- these bytes were taken: no line of them had a fault, or the first fault of the text is known, whatever follows
abbrev pub HasTaken : Fed → List ℕ → Type 0
HasTaken fed bytes = lines.HasTaken aut_form fed bytes

-- memory ran out
abbrev pub IsBroken : Fed → Type 0
IsBroken fed = lines.IsBroken fed
