-- What lines give keeps the limits of a text: line by line, since each step that is given keeps them.
use Rattle.std.proofs.Common.{◌≡◌, ◌+◌, ℕ, ◌<◌, ◌≤◌, List, [], ◌∷◌, ◌++◌, length, length-append, Contains, refl, sym, subst, arith, true, false, Bool, take, drop, cond, inl, inr}
use Rattle.std.specs.Prelude.{◌==◌, slice_index, ◌-◌, not}
use Rattle.std.specs.List.{before_first}
use Rattle.std.specs.Str.{IsUtf8}
use Rattle.std.proofs.lemmas.Bool.{eqb-false}
use Rattle.std.proofs.lemmas.List.{take-append-drop}
use Rattle.std.proofs.lemmas.List.Elements.{All-nil, All-push, Contains-append_left}
use Rattle.std.proofs.lemmas.List.Sums.{take_while-cons}
use Rattle.spectro_io.specs.Lines.{first_line, lines_of, without_cr}
use Rattle.spectro_io.specs.Blanks.{trimmed}
use Rattle.spectro_spec.specs.System.{System, Step, IsLabel}
use Rattle.spectro_spec.proofs.Members.{Contains-cases, Contains-none}
use Rattle.spectro_lines.specs.Texts.{Before, nothing_before, behind, LeadsTo, skipped, given, Follow}
use Rattle.spectro_aut.specs.Grammar.{Gives, Reading, start, steps, header, step}
use Rattle.spectro_aut.specs.Texts.{aut_form, IsText}
use Rattle.spectro_aut.specs.RoundTrip.{KeepsLimits}
use Rattle.spectro_aut.proofs.Steps.{few_labels, label-one_line, trimmed-one_line}
use Rattle.spectro_aut.proofs.TransitionLaws.{field_utf8, label_utf8}

-- a line has no LF
before_first-one_line : (bytes : List ℕ) → Contains (before_first (λ byte. byte == 10) bytes) 10 → ⊥
before_first-one_line [] within = Contains-none 10 within
before_first-one_line (byte ∷ bytes) within = by (byte == 10) refl (before_first-one_line bytes)
  where
    by : (ends : Bool) → (byte == 10) ≡ ends → (Contains (before_first (λ byte. byte == 10) bytes) 10 → ⊥) → ⊥
    by true e others = Contains-none 10 (rw (take_while-cons (λ byte. not (byte == 10)) byte bytes, e) at within)
    by false e others =
        elim (Contains-cases byte (before_first (λ byte. byte == 10) bytes) 10 (rw (take_while-cons (λ byte. not (byte == 10)) byte bytes, e) at within)) [
          | inl same ↦ eqb-false byte 10 e same
          | inr later ↦ others later
        ]

first_line-one_line : (line : List ℕ) → Contains (first_line line) 10 → ⊥
first_line-one_line line = by (before_first (λ byte. byte == 10) line) (before_first-one_line line)
  where
    cut : (text : List ℕ) (k : ℕ) → (Contains text 10 → ⊥) → Contains (take k text) 10 → ⊥
    cut text k one_line within = one_line (subst (λ l. Contains l 10) (take-append-drop k text) (Contains-append_left (take k text) (drop k text) 10 within))

    by : (text : List ℕ) → (Contains text 10 → ⊥) → Contains (without_cr text) 10 → ⊥
    by text one_line = go (slice_index text (length text - 1) == 13)
      where
        go : (ends : Bool) → Contains (cond ends (take (length text - 1) text) text) 10 → ⊥
        go true within = cut text (length text - 1) one_line within
        go false within = one_line within

-- the system so far keeps the limits, and no more steps are promised than there may be
abbrev Keeps : Reading → Type 0
Keeps start = Unit {0}
Keeps (steps transitions system) = (transitions ≤ 1000000) × (length system.steps ≤ transitions) × KeepsLimits system

-- a line gives one step more, or none
keeps-given : (reading : Reading) (line : List ℕ) (next : Reading) → IsUtf8 line → (Contains line 10 → ⊥) → Gives reading line next → Keeps reading → Keeps next
keeps-given reading line next utf8 one_line (header initial transitions states begins is_header within is) kept =
    subst Keeps (sym is) (
      within.few_transitions,
      omega arith,
      record {
        whole = record { initial = within.in_range; sources = All-nil _; targets = All-nil _ };
        few_states = within.few_states;
        few_steps = omega arith;
        few_labels = omega arith;
        are_labels = All-nil _;
        are_utf8 = All-nil _;
      },
    )
keeps-given reading line next utf8 one_line (step transitions system added follows is_step short in_range few room is) kept =
    let (most, within, old) = subst Keeps follows kept in
    let label : IsLabel added.label = record { short = short; one_line = label-one_line (trimmed line) added is_step (trimmed-one_line line one_line) } in
    let label_is_utf8 : IsUtf8 added.label = label_utf8 is_step.0 added.label is_step.2 (field_utf8 line added.source is_step.0 added.target utf8 is_step.1) in
    let more : length (system.steps ++ added ∷ []) ≡ length system.steps + 1 = length-append system.steps (added ∷ []) in
    subst Keeps (sym is) (
      most,
      omega (arith, more),
      record {
        whole = record {
          initial = old.whole.initial;
          sources = All-push (λ (s : Step). s.source < system.states) system.steps added old.whole.sources in_range.0;
          targets = All-push (λ (s : Step). s.target < system.states) system.steps added old.whole.targets in_range.1;
        };
        few_states = old.few_states;
        few_steps = omega (arith, more);
        few_labels = few_labels system added old.few_labels few;
        are_labels = All-push (λ (s : Step). IsLabel s.label) system.steps added old.are_labels label;
        are_utf8 = All-push (λ (s : Step). IsUtf8 s.label) system.steps added old.are_utf8 label_is_utf8;
      },
    )

keeps-lines : (before : Before Reading) (lines : List (List ℕ)) (after : Before Reading) → Follow aut_form before lines after → Keeps before.state
    → Keeps after.state
keeps-lines before [] after follow kept = subst (λ (before : Before Reading). Keeps before.state) (sym follow) kept
keeps-lines before (line ∷ lines) after follow kept = keeps-lines (behind before line follow.0) lines after follow.2 (keeps-led follow.1.leads)
  where
    keeps-led : LeadsTo aut_form before.state (before.lines + 1) (first_line line) follow.0 → Keeps follow.0
    keeps-led (skipped blank same) = subst Keeps (sym same) kept
    keeps-led (given some gives) = keeps-given before.state (first_line line) follow.0 follow.1.text (first_line-one_line line) gives kept

pub text_keeps_limits : (text : List ℕ) (system : System) → IsText text system → KeepsLimits system
text_keeps_limits text system is =
    let kept = subst Keeps is.ends (keeps-lines (nothing_before aut_form) (lines_of text) is.after is.follow tt) in
    kept.2
