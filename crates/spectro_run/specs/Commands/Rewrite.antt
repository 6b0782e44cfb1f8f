-- What comes of `rewrite`, of what its file holds.
use Rattle.std.specs.Prelude.{ℕ, List, Option}
use Rattle.spectro_aut.specs.Written.{text_of}
use Rattle.spectro_run.specs.Refusals.{system_of}
use Rattle.spectro_run.specs.Stages.{Outcome, After, Writes}
use Rattle.spectro_run.specs.declared.status.Which.TheVariants.{Left}

-- the system of the file, and then the text that is written of it
abbrev pub rewrite_outcome : Option (List ℕ) → Outcome
rewrite_outcome file = After (system_of Left file) (λ system. Writes (text_of system))
