-- A line after others gives one reading or has one fault, and the end of the text one system or one fault.
use Rattle.std.proofs.Common.{◌≡◌, ◌∙◌, ℕ, ◌+◌, ◌≤◌, List, length, refl, sym, ap, subst, inl, inr, arith}
use Rattle.std.specs.Prelude.{Result, Ok, Err, MatchResult, ◌⊎◌}
use Rattle.std.specs.Str.{IsUtf8}
use Rattle.std.proofs.lemmas.Bool.{cases_lt}
use Rattle.std.proofs.lemmas.List.{length_push}
use Rattle.spectro_io.specs.Blanks.{trimmed}
use Rattle.spectro_lines.proofs.Settled.{IsSettled, settled_by}
use Rattle.spectro_spec.specs.System.{System}
use Rattle.spectro_aut.specs.Grammar.{Reading, start, steps, with_step, without_steps, Gives, header, step}
use Rattle.spectro_aut.specs.Faults.{IsLineFault, EndsEarly, no_header, missing_lines}
use Rattle.spectro_aut.specs.Reading.{line_read}
use Rattle.spectro_aut.specs.declared.error.AutKind.{AutKind}
use Rattle.spectro_aut.specs.declared.error.AutKind.TheVariants.{NoHeader, MissingLines}
use Rattle.spectro_aut.proofs.LineLaws.{HasFewStates, read_gives, read_faults, read_gives-complete, read_faults-complete}

-- there are no more steps than the header says, and no more states than it may say
abbrev pub IsKept : Reading → Type 0
IsKept start = Unit {0}
IsKept (steps transitions system) = (length system.steps ≤ transitions) × (system.states ≤ 65536)

HasFewStates-from_kept : (reading : Reading) → IsKept reading → HasFewStates reading
HasFewStates-from_kept start kept = tt
HasFewStates-from_kept (steps transitions system) kept = kept.1

pub gives-IsKept : (reading : Reading) (line : List ℕ) (next : Reading) → IsKept reading → Gives reading line next → IsKept next
gives-IsKept reading line next kept (header initial transitions states none is_header within same) =
    let none_taken : IsKept (steps transitions (without_steps initial states)) = (omega arith, within.few_states) in
    subst IsKept (sym same) none_taken
gives-IsKept reading line next kept (step transitions system added begun is_line short range few below same) =
    let before : IsKept (steps transitions system) = subst IsKept begun kept in
    let one_more : IsKept (steps transitions (with_step system added)) = (omega (arith, length_push system.steps added), before.1) in
    subst IsKept (sym same) one_more

-- ---- one line
pub line_settled : (reading : Reading) (line : List ℕ) → IsKept reading → IsUtf8 line → IsSettled (Gives reading line) (IsLineFault reading line)
line_settled reading line kept utf8 = record { answer = line_read reading (trimmed line); is_so = is_so (line_read reading (trimmed line)) refl; once = once }
  where
    few : HasFewStates reading
    few = HasFewStates-from_kept reading kept

    is_so : (found : Result Reading AutKind) → line_read reading (trimmed line) ≡ found → MatchResult found (Gives reading line) (IsLineFault reading line)
    is_so (Ok next) read = read_gives reading line next few read
    is_so (Err kind) read = read_faults reading line kind few utf8 read

    once : (found : Result Reading AutKind) → MatchResult found (Gives reading line) (IsLineFault reading line) → found ≡ line_read reading (trimmed line)
    once (Ok next) gives = sym (read_gives-complete reading line next few utf8 gives)
    once (Err kind) fault = sym (read_faults-complete reading line kind few utf8 fault)

-- ---- the end of the text
abbrev pub Ends : Reading → System → Type 0
Ends reading system = reading ≡ steps (length system.steps) system

ends-once : (reading : Reading) (one other : System) → Ends reading one → Ends reading other → one ≡ other
ends-once reading one other first second = let same : steps (length one.steps) one ≡ steps (length other.steps) other = sym first ∙ second in cc

early-once : (reading : Reading) (one other : AutKind) → EndsEarly reading one → EndsEarly reading other → one ≡ other
early-once reading one other (no_header none is) (no_header none_too same) = is ∙ sym same
early-once reading one other (no_header none is) (missing_lines transitions system read few same) = let both = sym none ∙ read in cc
early-once reading one other (missing_lines transitions system read few is) (no_header none same) = let both = sym none ∙ read in cc
early-once reading one other (missing_lines transitions system read few is) (missing_lines promised found read_too few_too same) =
    let both : steps transitions system ≡ steps promised found = sym read ∙ read_too in
    let count : transitions ≡ promised = cc in
    let steps_too : system ≡ found = cc in
    is ∙ ap (λ said. MissingLines said (length system.steps)) count ∙ ap (λ (system : System). MissingLines promised (length system.steps)) steps_too ∙ sym same

ends-no_early : (reading : Reading) (system : System) (kind : AutKind) → Ends reading system → EndsEarly reading kind → ⊥
ends-no_early reading system kind ends (no_header none is) = let both = sym none ∙ ends in cc
ends-no_early reading system kind ends (missing_lines transitions found read few is) =
    let both : steps transitions found ≡ steps (length system.steps) system = sym read ∙ ends in
    let count : transitions ≡ length system.steps = cc in
    let same : found ≡ system = cc in
    omega (arith, few, ap (λ (system : System). length system.steps) same)

ends-cases : (reading : Reading) → IsKept reading → ((system : System) × Ends reading system) ⊎ ((kind : AutKind) × EndsEarly reading kind)
ends-cases start kept = inr (NoHeader, no_header refl refl)
ends-cases (steps transitions system) kept =
    elim (cases_lt (length system.steps) transitions) [
      | inl few ↦ inr (MissingLines transitions (length system.steps), missing_lines transitions system refl few refl)
      | inr all ↦ let same : transitions ≡ length system.steps = let most = kept.0 in omega arith in inl (system, ap (λ count. steps count system) same)
    ]

-- the reason why the text may not end stands at the line behind the last
abbrev pub IsEndFault : Reading → ℕ → ℕ × AutKind → Type 0
IsEndFault reading lines fault = EndsEarly reading fault.1 × (fault.0 ≡ lines + 1)

end_fault-once : (reading : Reading) (lines : ℕ) (one other : ℕ × AutKind) → IsEndFault reading lines one → IsEndFault reading lines other → one ≡ other
end_fault-once reading lines one other first second =
    ap (λ number. (number, one.1)) (first.1 ∙ sym second.1) ∙ ap (λ kind. (other.0, kind)) (early-once reading one.1 other.1 first.0 second.0)

end-cases : (reading : Reading) (lines : ℕ) → IsKept reading
    → ((system : System) × Ends reading system) ⊎ ((fault : ℕ × AutKind) × IsEndFault reading lines fault)
end-cases reading lines kept = elim (ends-cases reading kept) [ inl ends ↦ inl ends | inr early ↦ inr ((lines + 1, early.0), (early.1, refl)) ]

pub end_settled : (reading : Reading) (lines : ℕ) → IsKept reading → IsSettled (Ends reading) (IsEndFault reading lines)
end_settled reading lines kept =
    settled_by _ _ (end-cases reading lines kept) (ends-once reading) (end_fault-once reading lines)
    (λ system fault ends early. ends-no_early reading system fault.1 ends early.0)
