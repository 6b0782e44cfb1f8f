-- What a line gives, found from left to right.
use Rattle.std.specs.Prelude.{ℕ, ◌+◌, ◌==◌, ◌&&◌, ◌||◌, not, Bool, nat_lt, nat_le, List, [], ◌∷◌, length, take, drop, reverse, position, Option, None, Some, Result, Ok, Err, codes, if◌then◌else◌}
use Rattle.std.specs.List.{list_any}
use Rattle.std.specs.Option.{option_map}
use Rattle.std.specs.Str.{bytes_eq, is_utf8}
use Rattle.spectro_io.specs.Blanks.{skip_blanks, trimmed}
use Rattle.spectro_io.specs.Fronts.{◌>>=◌, after}
use Rattle.spectro_io.specs.Numbers.{number_of}
use Rattle.spectro_spec.specs.System.{System, Step}
use Rattle.spectro_lts.specs.Labels.{labels_of}
use Rattle.spectro_aut.specs.Grammar.{Reading, start, steps, with_step, without_steps}
use Rattle.spectro_aut.specs.declared.error.AutKind.{AutKind}
use Rattle.spectro_aut.specs.declared.error.AutKind.TheVariants.{NoHeader, BadHeader, TooManyStates, TooManyTransitions, NoState, BadInitial, BadLine, BadLabel, LabelTooLong, StateRange, TooManyLabels, ExtraLine}
use Rattle.spectro_aut.specs.declared.header.Header.{Header}
use Rattle.spectro_io.specs.declared.quoted.TheConstants.{MAX_LABEL_BYTES}
use Rattle.spectro_aut.specs.declared.header.TheConstants.{MAX_STATES, MAX_TRANSITIONS}
use Rattle.spectro_aut.specs.declared.reading.TheConstants.{MAX_LABELS}

-- what is left before the byte, where the text ends with it
abbrev pub before_last : ℕ → List ℕ → Option (List ℕ)
before_last byte text = option_map reverse (after (byte ∷ []) (reverse text))

-- what stands before and after the first such byte
unfoldable pub first_split : ℕ → List ℕ → Option (List ℕ × List ℕ)
first_split sought text = option_map (λ place. (take place text, drop (place + 1) text)) (position (λ byte. byte == sought) text)

-- what stands before and after the last such byte
unfoldable pub last_split : ℕ → List ℕ → Option (List ℕ × List ℕ)
last_split sought text = option_map (λ parts. (reverse parts.1, reverse parts.0)) (first_split sought (reverse text))

-- the number of a field, or the greatest of 64 bits where it is greater
abbrev pub field_number : List ℕ → Option ℕ
field_number text = number_of (trimmed text)

-- the numbers of a header, from what stands behind `des`
unfoldable pub header_of : List ℕ → Option Header
header_of rest = do
  opened ← after (40 ∷ []) (skip_blanks rest)
  fields ← before_last 41 opened
  first ← first_split 44 fields
  second ← first_split 44 first.1
  initial ← field_number first.0
  transitions ← field_number second.0
  states ← field_number second.1
  Some (record { initial = initial; transitions = transitions; states = states })

pub record Transition : Type 0 where
  pub source : ℕ
  pub field : List ℕ
  pub target : ℕ

-- the numbers and the label field of a transition
unfoldable pub transition_of : List ℕ → Option Transition
transition_of text = do
  opened ← after (40 ∷ []) text
  fields ← before_last 41 opened
  first ← first_split 44 fields
  last ← last_split 44 first.1
  source ← field_number first.0
  target ← field_number last.1
  Some (record { source = source; field = trimmed last.0; target = target })

-- the bytes, where they are UTF-8
abbrev pub utf8_of : List ℕ → Option (List ℕ)
utf8_of bytes = if is_utf8 bytes then Some bytes else None

-- what is left of the bytes between two quotes
abbrev pub unquoted : List ℕ → Option (List ℕ)
unquoted field = do
  rest ← after (34 ∷ []) field
  before_last 34 rest

-- the field is not empty and has no quote
abbrev pub is_bare : List ℕ → Bool
is_bare field = nat_lt 0 (length field) && not (list_any (λ byte. byte == 34) field)

-- the label of a field
unfoldable pub label_of : List ℕ → Option (List ℕ)
label_of field = if is_bare field then utf8_of field else (do
  label ← unquoted field
  utf8_of label)

-- the header, if it keeps the limits
abbrev pub header_within : Header → Result Header AutKind
header_within header =
    if nat_lt MAX_STATES header.states then Err TooManyStates
    else (if nat_lt MAX_TRANSITIONS header.transitions then Err TooManyTransitions
    else (if header.states == 0 then Err NoState
    else (if nat_le header.states header.initial then Err BadInitial
    else Ok header)))

abbrev pub header_read : Option Header → Result Header AutKind
header_read None = Err BadHeader
header_read (Some header) = header_within header

abbrev pub header_begun : Option (List ℕ) → Result Header AutKind
header_begun None = Err NoHeader
header_begun (Some rest) = header_read (header_of rest)

-- the header that the trimmed line is, or its fault
unfoldable pub header_in : List ℕ → Result Header AutKind
header_in text = header_begun (after (codes "des") text)

-- the step, if it may follow those of the system, of which there may be so many
abbrev pub step_within : ℕ → System → Step → Result Step AutKind
step_within transitions system step =
    if nat_lt MAX_LABEL_BYTES (length step.label) then Err LabelTooLong
    else (if nat_le system.states step.source || nat_le system.states step.target then Err StateRange
    else (if nat_le MAX_LABELS (length (labels_of system.steps)) && not (list_any (λ other. bytes_eq step.label other.label) system.steps)
    then Err TooManyLabels
    else (if nat_le transitions (length system.steps) then Err ExtraLine
    else Ok step)))

abbrev pub label_read : ℕ → System → Transition → Option (List ℕ) → Result Step AutKind
label_read transitions system transition None = Err BadLabel
label_read transitions system transition (Some label) = step_within transitions system
    (record { source = transition.source; label = label; target = transition.target })

abbrev pub transition_read : ℕ → System → Option Transition → Result Step AutKind
transition_read transitions system None = Err BadLine
transition_read transitions system (Some transition) = label_read transitions system transition (label_of transition.field)

-- the step that the trimmed line is, or its fault
unfoldable pub step_in : ℕ → System → List ℕ → Result Step AutKind
step_in transitions system text = transition_read transitions system (transition_of text)

abbrev pub started : Result Header AutKind → Result Reading AutKind
started (Ok header) = Ok (steps header.transitions (without_steps header.initial header.states))
started (Err kind) = Err kind

abbrev pub stepped : ℕ → System → Result Step AutKind → Result Reading AutKind
stepped transitions system (Ok step) = Ok (steps transitions (with_step system step))
stepped transitions system (Err kind) = Err kind

-- what a trimmed line that is not empty gives behind the others
abbrev pub line_read : Reading → List ℕ → Result Reading AutKind
line_read start text = started (header_in text)
line_read (steps transitions system) text = stepped transitions system (step_in transitions system text)
