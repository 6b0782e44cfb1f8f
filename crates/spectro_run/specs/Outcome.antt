-- What comes of the words: a status, and the bytes that go out.
use Rattle.std.specs.Prelude.{ℕ, ◌≡◌, ◌⊎◌, List, [], Option, None, Some}
use Rattle.std.specs.Io.KnownBytes.{Appends, Keeps}
use Rattle.std.specs.Str.{IsUtf8}
use Rattle.spectro_io.specs.Shelves.{Texts}
use Rattle.spectro_io.specs.Bytes.{AppendsPart}
use Rattle.spectro_run.specs.Commands.Eval.{eval_outcome}
use Rattle.spectro_run.specs.Commands.Rewrite.{rewrite_outcome}
use Rattle.spectro_run.specs.Commands.Price.{price_outcome}
use Rattle.spectro_run.specs.Commands.Size.{size_outcome}
use Rattle.spectro_run.specs.Commands.Compare.{compare_outcome}
use Rattle.spectro_run.specs.Commands.Demo.{demo_outcome}
use Rattle.spectro_run.specs.Held.{Held, AreHeld}
use Rattle.spectro_run.specs.Stages.{Outcome}
use Rattle.spectro_words.specs.Commands.{Command, eval, rewrite, price, size, compare, demo}
use Rattle.spectro_run.specs.declared.status.Status.{Status}
use Rattle.spectro_run.specs.declared.status.Status.TheVariants.{Done, No, Usage, ReadFault, WriteFault, OutOfMemory}
use Rattle.spectro_run.specs.declared.status.Which.TheVariants.{Left, Right, Weights, Notions}

-- what comes of a command whose files hold this; words that are no command are refused
abbrev pub outcome_of : Option Command → Held → Outcome
outcome_of None held = λ status bytes. (status ≡ Usage) × (bytes ≡ [])
outcome_of (Some (eval formula file weights)) held = eval_outcome formula (held Left) weights (held Weights)
outcome_of (Some (rewrite file)) held = rewrite_outcome (held Left)
outcome_of (Some (price formula weights)) held = price_outcome formula weights (held Weights)
outcome_of (Some (size left right limit)) held = size_outcome (held Left) (held Right) limit
outcome_of (Some (compare left right weights notions limit)) held =
    compare_outcome (held Left) (held Right) weights (held Weights) notions (held Notions) limit
outcome_of (Some (demo number)) held = demo_outcome number

-- the word that is read as a formula, if the command has one, is of UTF-8, as is each word that a run is handed
abbrev pub HasUtf8Formula : Option Command → Type 0
HasUtf8Formula None = Unit {0}
HasUtf8Formula (Some (eval formula file weights)) = IsUtf8 formula
HasUtf8Formula (Some (rewrite file)) = Unit {0}
HasUtf8Formula (Some (price formula weights)) = IsUtf8 formula
HasUtf8Formula (Some (size left right limit)) = Unit {0}
HasUtf8Formula (Some (compare left right weights notions limit)) = Unit {0}
HasUtf8Formula (Some (demo number)) = Unit {0}

-- The answer is an outcome, and all of its bytes were written. Or memory ran out, or the shelf failed, and nothing was
-- written. Or the output failed, and a proper prefix of the bytes was.
abbrev pub Ends : Outcome → Type 0 → Type 0 → Status → Option (List ℕ) → Option (List ℕ) → Type 0
Ends Gives ShelfFailed OutFailed OutOfMemory old new = Keeps old new
Ends Gives ShelfFailed OutFailed ReadFault old new = (ShelfFailed ⊎ Gives ReadFault []) × Keeps old new
Ends Gives ShelfFailed OutFailed WriteFault old new = OutFailed × ((status : Status) × (bytes : List ℕ) × Gives status bytes × AppendsPart old new bytes)
Ends Gives ShelfFailed OutFailed status old new = (bytes : List ℕ) × Gives status bytes × Appends old new bytes

-- so it is with the outcome of the command, of what its files hold
pub record IsAnswered (told : Option Texts) (asked : Option Command) (ShelfFailed OutFailed : Type 0) (status : Status)
    (old new : Option (List ℕ)) : Type 0 where
  pub held : Held
  pub are : AreHeld told asked held
  pub ends : Ends (outcome_of asked held) ShelfFailed OutFailed status old new

-- the output was written whole, or a proper prefix of it
abbrev pub Finishes : List ℕ → Status → Option (List ℕ) → Option (List ℕ) → Type 0
Finishes bytes Done old new = Appends old new bytes
Finishes bytes WriteFault old new = AppendsPart old new bytes
Finishes bytes status old new = ⊥

-- a refusal, a fault of reading and want of memory come before the output is touched
abbrev pub IsSilent : {Device : Type 0} → Status → Device → Device → Type 0
IsSilent Done old new = Unit {0}
IsSilent No old new = Unit {0}
IsSilent WriteFault old new = Unit {0}
IsSilent status old new = new ≡ old
