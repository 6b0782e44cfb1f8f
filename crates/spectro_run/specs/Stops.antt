-- Why a stage stops, and what has come of the stages so far.
use Rattle.std.specs.Prelude.{ℕ, ◌≡◌, ◌≢◌, ◌≤◌, List, [], Option, Some, Result, MatchResult}
use Rattle.spectro_io.specs.Shelves.{Texts}
use Rattle.spectro_run.specs.Held.{Held, IsHeld, AreHeld}
use Rattle.spectro_run.specs.Outcome.{outcome_of}
use Rattle.spectro_run.specs.Stages.{Stage}
use Rattle.spectro_words.specs.Commands.{Command}
use Rattle.spectro_words.specs.Words.{Word}
use Rattle.spectro_run.specs.declared.status.Status.{Status}
use Rattle.spectro_run.specs.declared.status.Status.TheVariants.{Done, No, Usage, BadText, TooLarge, ReadFault, WriteFault, OutOfMemory}

-- a status that stops a run before it writes
abbrev pub IsStop : Status → Type 0
IsStop (BadText fault) = Unit {0}
IsStop (TooLarge limit) = Unit {0}
IsStop ReadFault = Unit {0}
IsStop OutOfMemory = Unit {0}
IsStop Done = ⊥
IsStop No = ⊥
IsStop Usage = ⊥
IsStop WriteFault = ⊥

-- memory ran out, the shelf failed, or it is refused
pub data Stops (Refuses : Status → Type 0) (ShelfFailed : Type 0) (status : Status) : Type 0 where
  no_memory : status ≡ OutOfMemory → Stops Refuses ShelfFailed status
  unread : status ≡ ReadFault → ShelfFailed → Stops Refuses ShelfFailed status
  refused : IsStop status → Refuses status → Stops Refuses ShelfFailed status

-- what the stage gives, or why it stops
abbrev pub EndsStage : {T : Type 0} → Stage T → Type 0 → Result T Status → Type 0
EndsStage stage ShelfFailed result = MatchResult result stage.Gives (Stops stage.Refuses ShelfFailed)

-- the count of faults stayed, unless what is answered is a fault of reading
abbrev pub KeepsCount : {T : Type 0} → ℕ → ℕ → Result T Status → Type 0
KeepsCount before now result = MatchResult result (λ _. now ≡ before) (λ status. status ≢ ReadFault → now ≡ before)

-- how the count of faults changed: it did not fall, and it stayed where there is no fault of reading
pub record Counts {T : Type 0} (before now : ℕ) (result : Result T Status) : Type 0 where
  pub later : before ≤ now
  pub kept : KeepsCount before now result

-- a stage of what the file of the name holds, if there is one
pub record TakesStage {T : Type 0} (told : Option Texts) (name : Option Word) (stage : Option (List ℕ) → Stage T) (ShelfFailed : Type 0)
    (result : Result T Status) : Type 0 where
  pub held : Option (List ℕ)
  pub is : IsHeld told name held
  pub ends : EndsStage (stage held) ShelfFailed result

-- what the command has to write, or why it stops
pub record IsPrepared {T : Type 0} (told : Option Texts) (asked : Command) (text : T → List ℕ) (ShelfFailed : Type 0)
    (result : Result T Status) : Type 0 where
  pub held : Held
  pub are : AreHeld told (Some asked) held
  pub ends : MatchResult result (λ value. outcome_of (Some asked) held Done (text value)) (Stops (λ status. outcome_of (Some asked) held status []) ShelfFailed)
