-- What the code finds in a line is what the grammar and the faults say of it.
use Rattle.std.proofs.Common.{◌≡◌, ◌∙◌, ℕ, ◌≤◌, List, refl, sym, ap, subst}
use Rattle.std.specs.Prelude.{Result, Ok, Err}
use Rattle.std.specs.Str.{IsUtf8}
use Rattle.spectro_io.specs.Blanks.{trimmed}
use Rattle.spectro_spec.specs.System.{System, Step}
use Rattle.spectro_aut.specs.Grammar.{Reading, start, steps, Gives}
use Rattle.spectro_aut.specs.Faults.{IsLineFault}
use Rattle.spectro_aut.specs.Reading.{header_in, step_in, started, stepped, line_read}
use Rattle.spectro_aut.specs.declared.error.AutKind.{AutKind}
use Rattle.spectro_aut.specs.declared.header.Header.{Header}
use Rattle.spectro_aut.proofs.HeaderLaws.{header_in_ok, header_in_err, header_in_ok-complete, header_in_err-complete}
use Rattle.spectro_aut.proofs.TransitionLaws.{field_utf8}
use Rattle.spectro_aut.proofs.StepLaws.{HasTextField, IsFollowing, step_in_ok, step_in_err, step_in_ok-complete, step_in_err-complete}

-- the number of states is one that a header may say: a greater one could tell apart numbers that the code has as one
abbrev pub HasFewStates : Reading → Type 0
HasFewStates start = Unit {0}
HasFewStates (steps transitions system) = system.states ≤ 65536

-- in a line of UTF-8 each field is UTF-8
text_fields : (line : List ℕ) → IsUtf8 line → HasTextField (trimmed line)
text_fields line utf8 source field target h = field_utf8 line source field target utf8 h

-- a header, or its fault
header_gives : (line : List ℕ) (found : Result Header AutKind) (next : Reading) → header_in (trimmed line) ≡ found → started found ≡ Ok next
    → Gives start line next
header_gives line (Ok header) next is e =
    let h = header_in_ok (trimmed line) header is in
    Gives.header header.initial header.transitions header.states refl h.0 h.1 cc
header_gives line (Err kind) next is e = cc

header_faults : (line : List ℕ) (found : Result Header AutKind) (kind : AutKind) → header_in (trimmed line) ≡ found → started found ≡ Err kind
    → IsLineFault start line kind
header_faults line (Ok header) kind is e = cc
header_faults line (Err found) kind is e = IsLineFault.header refl (header_in_err (trimmed line) kind (is ∙ cc))

-- a step, or its fault
step_gives : (transitions : ℕ) (system : System) (line : List ℕ) (found : Result Step AutKind) (next : Reading) → system.states ≤ 65536
    → step_in transitions system (trimmed line) ≡ found → stepped transitions system found ≡ Ok next → Gives (steps transitions system) line next
step_gives transitions system line (Ok step) next few is e =
    let h = step_in_ok transitions system (trimmed line) step few is in
    Gives.step transitions system step refl h.0 h.1.short h.1.in_range h.1.few_labels h.1.few_steps cc
step_gives transitions system line (Err kind) next few is e = cc

step_faults : (transitions : ℕ) (system : System) (line : List ℕ) (found : Result Step AutKind) (kind : AutKind) → system.states ≤ 65536 → IsUtf8 line
    → step_in transitions system (trimmed line) ≡ found → stepped transitions system found ≡ Err kind
    → IsLineFault (steps transitions system) line kind
step_faults transitions system line (Ok step) kind few utf8 is e = cc
step_faults transitions system line (Err found) kind few utf8 is e =
    IsLineFault.step transitions system refl (step_in_err transitions system (trimmed line) kind few (text_fields line utf8) (is ∙ cc))

-- what a line that is not empty gives
pub read_gives : (reading : Reading) (line : List ℕ) (next : Reading) → HasFewStates reading → line_read reading (trimmed line) ≡ Ok next
    → Gives reading line next
read_gives start line next few e = header_gives line (header_in (trimmed line)) next refl e
read_gives (steps transitions system) line next few e = step_gives transitions system line (step_in transitions system (trimmed line)) next few refl e

pub read_faults : (reading : Reading) (line : List ℕ) (kind : AutKind) → HasFewStates reading → IsUtf8 line → line_read reading (trimmed line) ≡ Err kind
    → IsLineFault reading line kind
read_faults start line kind few utf8 e = header_faults line (header_in (trimmed line)) kind refl e
read_faults (steps transitions system) line kind few utf8 e =
    step_faults transitions system line (step_in transitions system (trimmed line)) kind few utf8 refl e

-- each line that gives something is read so, and each fault is told
pub read_gives-complete : (reading : Reading) (line : List ℕ) (next : Reading) → HasFewStates reading → IsUtf8 line → Gives reading line next
    → line_read reading (trimmed line) ≡ Ok next
read_gives-complete reading line next few utf8 (Gives.header initial transitions states begins h within is) =
    ap (λ r. line_read r (trimmed line)) begins ∙ ap started (header_in_ok-complete (trimmed line) initial transitions states h within) ∙ ap Ok (sym is)
read_gives-complete reading line next few utf8 (Gives.step transitions system step begins h label inside labels count is) =
    let follows : IsFollowing transitions system step = record { short = label; in_range = inside; few_labels = labels; few_steps = count } in
    ap (λ r. line_read r (trimmed line)) begins
    ∙ ap (stepped transitions system)
    (step_in_ok-complete transitions system (trimmed line) step (subst HasFewStates begins few) (text_fields line utf8) h follows) ∙ ap Ok (sym is)

pub read_faults-complete : (reading : Reading) (line : List ℕ) (kind : AutKind) → HasFewStates reading → IsUtf8 line → IsLineFault reading line kind
    → line_read reading (trimmed line) ≡ Err kind
read_faults-complete reading line kind few utf8 (IsLineFault.header begins fault) =
    ap (λ r. line_read r (trimmed line)) begins ∙ ap started (header_in_err-complete (trimmed line) kind fault)
read_faults-complete reading line kind few utf8 (IsLineFault.step transitions system begins fault) =
    ap (λ r. line_read r (trimmed line)) begins
    ∙ ap (stepped transitions system)
    (step_in_err-complete transitions system (trimmed line) kind (subst HasFewStates begins few) (text_fields line utf8) fault)
