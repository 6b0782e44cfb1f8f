-- The lines of what is written of a system follow each other as those of a text of it.
use Rattle.std.proofs.Common.{◌≡◌, ◌∙◌, ℕ, ◌+◌, ◌<◌, ◌≤◌, false, List, [], ◌∷◌, ◌++◌, length, refl, sym, ap, subst, arith, append_assoc, append-nil, length-append}
use Rattle.std.specs.Prelude.{All}
use Rattle.std.specs.List.{flat_map, list_any}
use Rattle.std.specs.Str.{bytes_eq, IsUtf8}
use Rattle.std.proofs.lemmas.List.Elements.{All-head, All-tail}
use Rattle.spectro_io.specs.Blanks.{trimmed}
use Rattle.spectro_io.specs.Lines.{first_line, lines_of}
use Rattle.spectro_spec.specs.System.{System, Step, IsLabel}
use Rattle.spectro_lts.specs.Labels.{labels_of}
use Rattle.spectro_lts.proofs.LabelLaws.{labels_of-push, length-labels_of, list_any-labels_of}
use Rattle.spectro_aut.specs.Grammar.{IsHeader, IsStepLine, IsWithinLimits, IsLabelTooMany, Reading, start, steps, Gives}
use Rattle.spectro_aut.specs.Texts.{aut_form}
use Rattle.spectro_aut.specs.RoundTrip.{KeepsLimits, WrittenTextsAreRead}
use Rattle.spectro_aut.specs.Written.{step_text, text_of}
use Rattle.spectro_lines.specs.LineReading.{IsTaken}
use Rattle.spectro_lines.specs.Texts.{Before, nothing_before, behind, given, Follow}
use Rattle.spectro_lines.proofs.LineJudgements.{taken-IsRead}
use Rattle.spectro_lines.proofs.HeldLines.{lines_of-ended, first_line-ended}
use Rattle.spectro_aut.proofs.WrittenLines.{IsPlain, header_line, header_text_line, IsHeader-header_line, IsPlain-header_line, step_line, step_text_line, IsStepLine-step_line, IsPlain-step_line}
use Rattle.spectro_io.specs.declared.read.TheConstants.{TEXT_LIMIT}

-- a line that is read as it stands, and the lines behind it
follow_plain : (line rest : List ℕ) (before after : Before Reading) (next : Reading) → IsPlain line → before.bytes + (length line + 1) ≤ TEXT_LIMIT
    → Gives before.state line next
    → Follow aut_form (behind before (line ++ 10 ∷ []) next) (lines_of rest) after → Follow aut_form before (lines_of (line ++ 10 ∷ rest)) after
follow_plain line rest before after next plain room gives others =
    let ended : first_line (line ++ 10 ∷ []) ≡ line = first_line-ended line plain.unbroken ∙ plain.ended in
    let taken : IsTaken aut_form before.state
    (before.lines + 1) line next = record { short = plain.short; text = plain.utf8; leads = given plain.some gives } in
    let read = taken-IsRead aut_form before (line ++ 10 ∷ []) line ended (omega (arith, length-append line (10 ∷ []))) next taken in
    subst (λ lines. Follow aut_form before lines after) (sym (lines_of-ended line rest plain.unbroken)) (next, read, others)

-- what is asked of a step of a system with so many states
record IsWritable (states : ℕ) (step : Step) : Type 0 where
  source : step.source < states
  target : step.target < states
  is_label : IsLabel step.label
  utf8 : IsUtf8 step.label

all_writable : (system : System) → KeepsLimits system → All (IsWritable system.states) system.steps
all_writable system limits place other within = record {
  source = limits.whole.sources place other within;
  target = limits.whole.targets place other within;
  is_label = limits.are_labels place other within;
  utf8 = limits.are_utf8 place other within;
}

-- the system with the steps of the lines so far
abbrev draft : System → List Step → System
draft system done = record system { steps = done }

-- a label that is new finds a place, since the labels of all steps have one
labels_have_room : (done rest : List Step) (step : Step) (system : System) → length (labels_of (done ++ step ∷ [] ++ rest)) ≤ 65536
    → IsLabelTooMany (draft system done) step → ⊥
labels_have_room done rest step system few (full, new) =
    let known : list_any (bytes_eq step.label) (labels_of done) ≡ false = list_any-labels_of done step.label ∙ new in
    let more : length (labels_of (done ++ step ∷ [])) ≡ length (labels_of done) + 1 =
    ap length (labels_of-push done step) ∙ rw known (length-append (labels_of done) (step.label ∷ [])) in
    omega (arith, full, few, more, length-labels_of (done ++ step ∷ []) rest)

module _ (system : System) (limits : KeepsLimits system) where
  -- the line of the step behind those so far
  step_gives : (done rest : List Step) (step : Step) → system.steps ≡ (done ++ step ∷ []) ++ rest → IsWritable system.states step → IsPlain (step_line step)
      → Gives (steps (length system.steps) (draft system done)) (step_line step) (steps (length system.steps) (draft system (done ++ step ∷ [])))
  step_gives done rest step whole writable plain =
      let few = limits.few_states in
      let is_line : IsStepLine (trimmed (step_line step)) step =
      subst (λ text. IsStepLine text step) (sym plain.bare) (IsStepLine-step_line step (omega (arith, writable.source)) (omega (arith, writable.target))) in
      let labels : length (labels_of ((done ++ step ∷ []) ++ rest)) ≤ 65536 = subst (λ all. length (labels_of all) ≤ 65536) whole limits.few_labels in
      let room : length done < length system.steps = omega (arith, ap length whole, length-append (done ++ step ∷ []) rest, length-append done (step ∷ [])) in
      Gives.step (length system.steps) (draft system done) step refl is_line writable.is_label.short (writable.source, writable.target)
      (labels_have_room done rest step system labels) room refl

  -- the lines of the steps that are still to come
  abbrev StepsFollow : Before Reading → List Step → Type 0
  StepsFollow before rest =
      (after : Before Reading) × Follow aut_form before (lines_of (flat_map step_text rest)) after × (after.state ≡ steps (length system.steps) system)

  steps_follow : (done rest : List Step) (before : Before Reading) → system.steps ≡ done ++ rest → All (IsWritable system.states) rest
      → before.state ≡ steps (length system.steps) (draft system done)
      → before.bytes + length (flat_map step_text rest) ≤ TEXT_LIMIT → StepsFollow before rest
  steps_follow done [] before whole writable reading room =
      (before, refl, reading ∙ ap (λ all. steps (length system.steps) (draft system all)) (sym (whole ∙ append-nil done)))
  steps_follow done (step ∷ rest) before whole writable reading room =
      let is_writable : IsWritable system.states step = All-head (IsWritable system.states) step rest writable in
      let few = limits.few_states in
      let plain = IsPlain-step_line step (omega (arith, is_writable.source)) (omega (arith, is_writable.target)) is_writable.is_label is_writable.utf8 in
      let more : system.steps ≡ (done ++ step ∷ []) ++ rest = whole ∙ sym (append_assoc done (step ∷ []) rest) in
      let next : Reading = steps (length system.steps) (draft system (done ++ step ∷ [])) in
      let line : List ℕ = step_line step in
      let text : step_text step ++ flat_map step_text rest ≡ line ++ 10 ∷ flat_map step_text rest = step_text_line step (flat_map step_text rest) in
      let bytes : length (step_text step ++ flat_map step_text rest) ≡ length line + length (10 ∷ flat_map step_text rest) =
      ap length text ∙ length-append line (10 ∷ flat_map step_text rest) in
      let ending : length (line ++ 10 ∷ []) ≡ length line + 1 = length-append line (10 ∷ []) in
      let others =
      steps_follow (done ++ step ∷ []) rest (behind before (line ++ 10 ∷ []) next) more (All-tail (IsWritable system.states) step rest writable) refl
      (omega (arith, bytes, ending, room)) in
      let gives : Gives before.state line next = subst (λ reading. Gives reading line next) (sym reading) (step_gives done rest step more is_writable plain) in
      let follow = follow_plain line (flat_map step_text rest) before others.0 next plain (omega (arith, bytes, room)) gives others.1 in
      (others.0, subst (λ text. Follow aut_form before (lines_of text) others.0) (sym text) follow, others.2)

-- the header, and then the steps
pub written_is_text : WrittenTextsAreRead
written_is_text system limits short =
    let few = limits.few_states in
    let few_steps = limits.few_steps in
    let in_range = limits.whole.initial in
    let line : List ℕ = header_line system in
    let rest : List ℕ = flat_map step_text system.steps in
    let plain : IsPlain line = IsPlain-header_line system (omega arith) few_steps (omega arith) in
    let text : text_of system ≡ line ++ 10 ∷ rest = header_text_line system rest in
    let bytes : length (text_of system) ≡ length line + length (10 ∷ rest) = ap length text ∙ length-append line (10 ∷ rest) in
    let ending : length (line ++ 10 ∷ []) ≡ length line + 1 = length-append line (10 ∷ []) in
    let next : Reading = steps (length system.steps) (draft system []) in
    let is_header : IsHeader (trimmed line) system.initial (length system.steps) system.states =
    subst (λ text. IsHeader text system.initial (length system.steps) system.states) (sym plain.bare)
    (IsHeader-header_line system (omega arith) (omega arith) (omega arith)) in
    let within : IsWithinLimits system.initial (length system.steps) system.states =
    record { few_states = few; few_transitions = few_steps; in_range = in_range } in
    let gives : Gives start line next = Gives.header system.initial (length system.steps) system.states refl is_header within refl in
    let others =
    steps_follow system limits [] system.steps (behind (nothing_before aut_form) (line ++ 10 ∷ []) next) refl (all_writable system limits) refl
    (omega (arith, bytes, ending, short)) in
    let follow = follow_plain line rest (nothing_before aut_form) others.0 next plain (omega (arith, bytes, short)) gives others.1 in
    record { after = others.0; follow = subst (λ text. Follow aut_form (nothing_before aut_form) (lines_of text) others.0) (sym text) follow; ends = others.2 }
