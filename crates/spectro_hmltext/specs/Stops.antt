-- Where reading stops.
use Rattle.std.specs.Prelude.{ℕ, ◌≡◌, List, length}
use Rattle.spectro_hmltext.specs.declared.error.TextKind.{TextKind}
use Rattle.spectro_hmltext.specs.declared.stop.Stop.{Stop}
use Rattle.spectro_hmltext.specs.declared.stop.Stop.TheVariants.{Fault, OutOfMemory}

-- it stops at the fault, with so many bytes left; want of memory says nothing
abbrev pub StopsAt : (List ℕ → TextKind → Type 0) → Stop → Type 0
StopsAt IsFault (Fault left kind) = (rest : List ℕ) × (length rest ≡ left) × IsFault rest kind
StopsAt IsFault OutOfMemory = Unit {0}
