-- Why a stage stops, as why the whole chain does.
use Rattle.std.proofs.Common.{◌≡◌, ◌∙◌, ℕ, [], ap, refl, sym, subst, arith}
use Rattle.std.specs.Prelude.{◌≤◌, List, Option, None, Some, Result, Ok, Err, IfOk, IfErr, MatchResult}
use Rattle.spectro_io.specs.Faults.{Rose}
use Rattle.spectro_io.specs.Shelves.{Texts}
use Rattle.spectro_words.specs.Commands.{Command}
use Rattle.spectro_words.specs.Words.{Word}
use Rattle.spectro_run.specs.Held.{file_of}
use Rattle.spectro_run.specs.Reading.{JudgesWhole, LeavesRest, ReadsToEnd}
use Rattle.spectro_run.specs.Stages.{Outcome, Stage, After}
use Rattle.spectro_run.specs.Stages as stages
use Rattle.spectro_run.specs.Stops.{Counts, IsStop, Stops, no_memory, refused, unread}
use Rattle.spectro_run.specs.declared.status.Status.{Status}
use Rattle.spectro_run.specs.declared.status.Status.TheVariants.{Done, No, Usage, BadText, TooLarge, ReadFault, WriteFault, OutOfMemory}
use Rattle.spectro_run.specs.declared.status.Which.{Which}

-- what stops for one reason stops for one that is as good
pub stops-map : {P Q : Status → Type 0} {Failed More : Type 0} (status : Status) → (P status → Q status) → (Failed → More) → Stops P Failed status
    → Stops Q More status
stops-map status map wider (no_memory is) = no_memory is
stops-map status map wider (unread is failed) = unread is (wider failed)
stops-map status map wider (refused stop refuses) = refused stop (map refuses)

-- the first stage of a chain stops
pub stops-first : {T : Type 0} {Failed More : Type 0} (stage : Stage T) (Rest : T → Outcome) (status : Status) → (Failed → More)
    → Stops stage.Refuses Failed status
    → Stops (λ status. After stage Rest status []) More status
stops-first stage Rest status = stops-map status (λ refuses. stages.refused refuses refl)

-- the chain behind it stops
pub stops-behind : {T : Type 0} {Failed More : Type 0} (stage : Stage T) (Rest : T → Outcome) (value : T) (status : Status) → stage.Gives value
    → (Failed → More)
    → Stops (λ status. Rest value status []) Failed status → Stops (λ status. After stage Rest status []) More status
stops-behind stage Rest value status gives = stops-map status (λ rest. stages.given value gives rest)

-- a stop is one
pub stops-stop : {P : Status → Type 0} {Failed : Type 0} (status : Status) → Stops P Failed status → IsStop status
stops-stop status (no_memory is) = subst IsStop (sym is) tt
stops-stop status (unread is failed) = subst IsStop (sym is) tt
stops-stop status (refused stop refuses) = stop

-- the count of faults stayed, whatever is answered
pub counts-same : {T : Type 0} (before now : ℕ) (result : Result T Status) → now ≡ before → Counts before now result
counts-same before now (Ok value) same = record { later = omega arith; kept = same }
counts-same before now (Err status) same = record { later = omega arith; kept = λ _. same }

-- a later stage began and stopped later
pub counts-stop : {T U : Type 0} (before mid now : ℕ) (status : Status) → mid ≡ before → Counts {T = U} mid now (Err status)
    → Counts {T = T} before now (Err status)
counts-stop before mid now status same counts = record { later = omega (arith, same, counts.later); kept = λ other. counts.kept other ∙ same }

-- a later stage began and ended later
pub counts-then : {U : Type 0} (before mid now : ℕ) (result : Result U Status) → mid ≡ before → Counts mid now result → Counts before now result
counts-then before mid now (Ok value) same counts = record { later = omega (arith, same, counts.later); kept = counts.kept ∙ same }
counts-then before mid now (Err status) same counts = counts-stop before mid now status same counts

-- what failed failed in a longer time too
pub rose-wider : (earlier before now later : ℕ) → earlier ≤ before → now ≤ later → Rose before now → Rose earlier later
rose-wider earlier before now later first last rose = omega (arith, first, last, rose)

-- how the last stage ends, as how the chain does
pub ends-as : {T : Type 0} {P A : T → Type 0} {Q B : Status → Type 0} (result : Result T Status) → IfOk result P → IfErr result Q
    → ((value : T) → P value → A value) → ((status : Status) → Q status → B status)
    → MatchResult result A B
ends-as (Ok value) ok err gives stops = gives value ok
ends-as (Err status) ok err gives stops = stops status err

-- where a stage stops, each file stands as it does where the stage is refused
pub stops-whole : {P : Status → Type 0} {Failed : Type 0} (told : Option Texts) (asked : Command) (left : Option (List ℕ)) (status : Status)
    → (P status → JudgesWhole told (Some asked) left status) → Stops P Failed status → JudgesWhole told (Some asked) left status
stops-whole told asked left status refusal (no_memory is) = subst (JudgesWhole told (Some asked) left) (sym is) tt
stops-whole told asked left status refusal (unread is failed) = subst (JudgesWhole told (Some asked) left) (sym is) tt
stops-whole told asked left status refusal (refused stop refuses) = refusal refuses

-- nothing is left of no file
pub leaves-none : (told : Option Texts) (left : Option (List ℕ)) → LeavesRest told None left
leaves-none None left = tt
leaves-none (Some texts) left = tt

-- a text that is refused is that of the file, which was read to its end
pub judges-whole : (told : Option Texts) (asked : Command) (name : Option Word) (which : Which) (left : Option (List ℕ)) (status : Status)
    → name ≡ file_of which asked → ReadsToEnd told name which left status → JudgesWhole told (Some asked) left status
judges-whole told asked name which left (BadText fault) same read =
    subst (λ file. LeavesRest told file left) (same ∙ ap (λ which. file_of which asked) (sym read.0)) read.1
judges-whole told asked name which left Done same read = tt
judges-whole told asked name which left No same read = tt
judges-whole told asked name which left Usage same read = tt
judges-whole told asked name which left (TooLarge limit) same read = tt
judges-whole told asked name which left ReadFault same read = tt
judges-whole told asked name which left WriteFault same read = tt
judges-whole told asked name which left OutOfMemory same read = tt
