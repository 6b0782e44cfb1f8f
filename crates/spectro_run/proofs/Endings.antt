-- How a run ends, from what was prepared and how it was written.
use Rattle.std.proofs.Common.{◌≡◌, ◌≢◌, ◌∙◌, ℕ, List, [], inl, inr, refl, sym, subst}
use Rattle.std.specs.Prelude.{Option, Some, IfOk, IfErr, Result, Ok, Err}
use Rattle.std.proofs.KnownBytes.{Appends-nil, Keeps-refl}
use Rattle.spectro_io.specs.Shelves.{Texts}
use Rattle.spectro_run.specs.Outcome.{Ends, Finishes, IsAnswered, outcome_of}
use Rattle.spectro_run.specs.Stages.{Outcome}
use Rattle.spectro_run.specs.Stops.{Counts, IsPrepared, IsStop, Stops, no_memory, refused, unread}
use Rattle.spectro_words.specs.Commands.{Command}
use Rattle.spectro_run.specs.declared.status.Status.{Status}
use Rattle.spectro_run.specs.declared.status.Status.TheVariants.{Done, No, Usage, BadText, TooLarge, ReadFault, WriteFault, OutOfMemory}
use Rattle.spectro_run.proofs.Stopping.{stops-stop}

-- the text was written, or a proper prefix of it
ends-written : (Gives : Outcome) (ShelfFailed OutFailed : Type 0) (text : List ℕ) (status : Status) (old new : Option (List ℕ)) → Gives Done text
    → (status ≡ WriteFault → OutFailed)
    → Finishes text status old new → Ends Gives ShelfFailed OutFailed status old new
ends-written Gives ShelfFailed OutFailed text Done old new gives cause finished = (text, gives, finished)
ends-written Gives ShelfFailed OutFailed text WriteFault old new gives cause finished = (cause refl, (Done, text, gives, finished))
ends-written Gives ShelfFailed OutFailed text No old new gives cause finished = absurd finished
ends-written Gives ShelfFailed OutFailed text Usage old new gives cause finished = absurd finished
ends-written Gives ShelfFailed OutFailed text (BadText fault) old new gives cause finished = absurd finished
ends-written Gives ShelfFailed OutFailed text (TooLarge limit) old new gives cause finished = absurd finished
ends-written Gives ShelfFailed OutFailed text ReadFault old new gives cause finished = absurd finished
ends-written Gives ShelfFailed OutFailed text OutOfMemory old new gives cause finished = absurd finished

-- a refusal
ends-refused : (Gives : Outcome) (ShelfFailed OutFailed : Type 0) (status : Status) (old : Option (List ℕ)) → IsStop status → Gives status []
    → Ends Gives ShelfFailed OutFailed status old old
ends-refused Gives ShelfFailed OutFailed (BadText fault) old stop gives = ([], gives, Appends-nil old)
ends-refused Gives ShelfFailed OutFailed (TooLarge limit) old stop gives = ([], gives, Appends-nil old)
ends-refused Gives ShelfFailed OutFailed ReadFault old stop gives = (inr gives, Keeps-refl old)
ends-refused Gives ShelfFailed OutFailed OutOfMemory old stop gives = Keeps-refl old
ends-refused Gives ShelfFailed OutFailed Done old stop gives = absurd stop
ends-refused Gives ShelfFailed OutFailed No old stop gives = absurd stop
ends-refused Gives ShelfFailed OutFailed Usage old stop gives = absurd stop
ends-refused Gives ShelfFailed OutFailed WriteFault old stop gives = absurd stop

-- a stop, which leaves the output
ends-stopped : (Gives : Outcome) (ShelfFailed OutFailed : Type 0) (status : Status) (old : Option (List ℕ))
    → Stops (λ status. Gives status []) ShelfFailed status → Ends Gives ShelfFailed OutFailed status old old
ends-stopped Gives ShelfFailed OutFailed status old (no_memory is) = subst (λ status. Ends Gives ShelfFailed OutFailed status old old) (sym is) (Keeps-refl old)
ends-stopped Gives ShelfFailed OutFailed status old (unread is failed) = subst (λ status. Ends Gives ShelfFailed OutFailed status old old) (sym is)
    (inl failed, Keeps-refl old)
ends-stopped Gives ShelfFailed OutFailed status old (refused stop gives) = ends-refused Gives ShelfFailed OutFailed status old stop gives

-- what was prepared was written as far as the device took it, or the status is why it was not prepared
pub answered : {T : Type 0} (told : Option Texts) (asked command : Command) (text : T → List ℕ) (ShelfFailed OutFailed : Type 0) (result : Result T Status)
    (status : Status) (old new : Option (List ℕ))
    → asked ≡ command → IsPrepared told command text ShelfFailed result → IfOk result (λ value. Finishes (text value) status old new)
    → IfErr result (λ stop. (status ≡ stop) × (new ≡ old)) → (status ≡ WriteFault → OutFailed)
    → IsAnswered told (Some asked) ShelfFailed OutFailed status old new
answered told asked command text ShelfFailed OutFailed (Ok value) status old new same prepared finished stopped cause = subst
    (λ asked. IsAnswered told (Some asked) ShelfFailed OutFailed status old new) (sym same) (record {
      held = prepared.held;
      are = prepared.are;
      ends = ends-written (outcome_of (Some command) prepared.held) ShelfFailed OutFailed (text value) status old new prepared.ends cause finished;
    })
answered told asked command text ShelfFailed OutFailed (Err stop) status old new same prepared finished stopped cause = subst
    (λ asked. IsAnswered told (Some asked) ShelfFailed OutFailed status old new) (sym same) (record {
      held = prepared.held;
      are = prepared.are;
      ends =
          subst (λ status. Ends (outcome_of (Some command) prepared.held) ShelfFailed OutFailed status old new) (sym stopped.0)
          (subst (Ends (outcome_of (Some command) prepared.held) ShelfFailed OutFailed stop old) (sym stopped.1)
          (ends-stopped (outcome_of (Some command) prepared.held) ShelfFailed OutFailed stop old prepared.ends));
    })

-- what was not prepared stops the run
pub prepared-stops : {T : Type 0} (told : Option Texts) (asked : Command) (text : T → List ℕ) (ShelfFailed : Type 0) (result : Result T Status)
    → IsPrepared told asked text ShelfFailed result → IfErr result IsStop
prepared-stops told asked text ShelfFailed (Ok value) prepared = tt
prepared-stops told asked text ShelfFailed (Err status) prepared = stops-stop status prepared.ends

-- the shelf did not fail where its fault is not answered
pub counts-kept : {T : Type 0} (before now : ℕ) (result : Result T Status) (status : Status) (P : Type 0) → Counts before now result
    → IfErr result (λ stop. (status ≡ stop) × P) → status ≢ ReadFault → now ≡ before
counts-kept before now (Ok value) status P counts stopped other = counts.kept
counts-kept before now (Err stop) status P counts stopped other = counts.kept (λ is. other (stopped.0 ∙ is))
