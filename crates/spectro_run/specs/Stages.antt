-- The order of refusals: one stage after the other, and the answer last.
use Rattle.std.specs.Prelude.{ℕ, ◌≡◌, List, []}
use Rattle.spectro_run.specs.declared.status.Status.{Status}
use Rattle.spectro_run.specs.declared.status.Status.TheVariants.{Done}

-- what comes of a command: a status, and the bytes that go out
abbrev pub Outcome : Type 1
Outcome = Status → List ℕ → Type 0

-- a stage is refused with a status, or gives a value
pub record Stage (T : Type 0) : Type 1 where
  pub Refuses : Status → Type 0
  pub Gives : T → Type 0

-- refused where the stage is, and nothing goes out; else the rest, of what the stage gives
pub data After {T : Type 0} (stage : Stage T) (Rest : T → Outcome) (status : Status) (bytes : List ℕ) : Type 0 where
  refused : stage.Refuses status → bytes ≡ [] → After stage Rest status bytes
  given : (value : T) → stage.Gives value → Rest value status bytes → After stage Rest status bytes

-- all is done, and the text goes out
abbrev pub Writes : List ℕ → Outcome
Writes text status bytes = (status ≡ Done) × (bytes ≡ text)

-- the outcome has at most one status, and at most one row of bytes
pub record IsAtMostOne (Gives : Outcome) : Type 0 where
  pub status : (one other : Status) (bytes more : List ℕ) → Gives one bytes → Gives other more → one ≡ other
  pub bytes : (one other : Status) (bytes more : List ℕ) → Gives one bytes → Gives other more → bytes ≡ more

-- it has a status and bytes
abbrev pub IsSome : Outcome → Type 0
IsSome Gives = (status : Status) × (bytes : List ℕ) × Gives status bytes
