-- The lines that are written of a system: its header, and its steps.
use Rattle.std.proofs.Common.{◌≡◌, ◌∙◌, ℕ, ◌-◌, ◌^◌, ◌<◌, ◌≤◌, true, false, List, [], ◌∷◌, ◌++◌, get_or, length, refl, sym, ap, subst, arith, append_assoc, append-nil, length-append}
use Rattle.std.specs.Prelude.{codes, nat_eq}
use Rattle.std.specs.Fmt.{decimal}
use Rattle.std.specs.List.{list_all}
use Rattle.std.specs.Str.{IsUtf8}
use Rattle.std.proofs.lemmas.Bool.{and_from, and_parts, both_ways, or_from}
use Rattle.std.proofs.lemmas.List.{get_or_at}
use Rattle.std.proofs.lemmas.List.Folds.{list_all-append, list_any-append}
use Rattle.std.proofs.lemmas.Str.{IsUtf8-append, IsUtf8-from_ascii}
use Rattle.spectro_io.specs.Blanks.{is_blank, trimmed, AreBlanks}
use Rattle.spectro_io.specs.Lines.{without_cr}
use Rattle.spectro_io.proofs.Blanks.{trimmed_core, trimmed-quoted}
use Rattle.spectro_spec.specs.System.{System, Step, IsLabel}
use Rattle.spectro_aut.specs.Fields.{IsLabelField}
use Rattle.spectro_aut.specs.Grammar.{IsHeader, IsTransition, IsStepLine}
use Rattle.spectro_aut.specs.Written.{header_text, step_text}
use Rattle.spectro_aut.proofs.FieldLaws.{Lacks, Lacks-Contains, Lacks-from_no_Contains, is_ascii_byte, IsAscii-from_list_all}
use Rattle.spectro_lines.proofs.HeldLines.{IsUnbroken}
use Rattle.spectro_lines.proofs.HeldLines as held
use Rattle.spectro_aut.proofs.WrittenNumbers.{decimal_field, spaced_field, Lacks-decimal, list_all-decimal, length-decimal}
use Rattle.spectro_io.specs.declared.lines.TheConstants.{LINE_LIMIT}

-- a line that is read as it stands
pub record IsPlain (line : List ℕ) : Type 0 where
  pub unbroken : IsUnbroken line
  pub utf8 : IsUtf8 line
  pub some : ¬ AreBlanks line
  pub bare : trimmed line ≡ line
  pub ended : without_cr line ≡ line
  pub short : length line ≤ LINE_LIMIT

-- ---- no byte of a line ends it
Lacks-append : (front rest : List ℕ) (byte : ℕ) → Lacks front byte → Lacks rest byte → Lacks (front ++ rest) byte
Lacks-append front rest byte first second = list_any-append (λ other. nat_eq other byte) front rest ∙ or_from _ _ first second

-- ---- bytes of ASCII are UTF-8
list_all-ascii_append : (front rest : List ℕ) → list_all is_ascii_byte front ≡ true → list_all is_ascii_byte rest ≡ true
    → list_all is_ascii_byte (front ++ rest) ≡ true
list_all-ascii_append front rest first second = list_all-append is_ascii_byte front rest ∙ and_from _ _ first second

IsUtf8-list_all : (text : List ℕ) → list_all is_ascii_byte text ≡ true → IsUtf8 text
IsUtf8-list_all text ascii = IsUtf8-from_ascii text (IsAscii-from_list_all text ascii)

-- ---- a line that ends with a parenthesis keeps its end
without_cr-closed : (front : List ℕ) → without_cr (front ++ 41 ∷ []) ≡ front ++ 41 ∷ []
without_cr-closed front =
    let place : length (front ++ 41 ∷ []) - 1 ≡ length front = omega (arith, length-append front (41 ∷ [])) in
    let last : get_or (front ++ 41 ∷ []) (length (front ++ 41 ∷ []) - 1) 0 ≡ 41 = ap (λ place. get_or (front ++ 41 ∷ []) place 0) place
    ∙ get_or_at front 41 [] 0 (length front) refl in
    rw last refl

trimmed-closed : (first : ℕ) (others front : List ℕ) → first ∷ others ≡ front ++ 41 ∷ [] → is_blank first ≡ false → trimmed (first ∷ others) ≡ first ∷ others
trimmed-closed first others front closes opens =
    subst (λ line. trimmed line ≡ first ∷ others) (append-nil (first ∷ others))
    (trimmed_core [] (first ∷ others) [] first 41 others front refl refl refl closes opens refl)

closed : (first : ℕ) (others front : List ℕ) → first ∷ others ≡ front ++ 41 ∷ [] → is_blank first ≡ false → Lacks (first ∷ others) 10
    → IsUtf8 (first ∷ others) → length (first ∷ others) ≤ LINE_LIMIT → IsPlain (first ∷ others)
closed first others front closes opens lacks utf8 short = record {
  unbroken = held.unbroken (first ∷ others) (Lacks-Contains (first ∷ others) 10 lacks);
  utf8 = utf8;
  some = λ blank. both_ways (is_blank first) opens (and_parts (is_blank first) (list_all is_blank others) blank).0;
  bare = trimmed-closed first others front closes opens;
  ended = subst (λ line. without_cr line ≡ line) (sym closes) (without_cr-closed front);
  short = short;
}

-- ---- the header without its LF, from the texts of its numbers
abbrev pub header_bytes : List ℕ → List ℕ → List ℕ → List ℕ
header_bytes first second third = codes "des (" ++ (first ++ (codes ", " ++ (second ++ (codes ", " ++ (third ++ codes ")")))))

abbrev pub header_line : System → List ℕ
header_line system = header_bytes (decimal system.initial) (decimal (length system.steps)) (decimal system.states)

pub header_text_line : (system : System) (rest : List ℕ) → header_text system ++ rest ≡ header_line system ++ 10 ∷ rest
header_text_line system rest = simp append_assoc

header_whole : (first second third : List ℕ)
    → header_bytes first second third ≡ codes "des" ++ (32 ∷ []) ++ 40 ∷ first ++ 44 ∷ (32 ∷ second) ++ 44 ∷ (32 ∷ third) ++ 41 ∷ []
header_whole first second third = simp append_assoc

pub IsHeader-header_line : (system : System) → system.initial < 2 ^ 64 → length system.steps < 2 ^ 64 → system.states < 2 ^ 64
    → IsHeader (header_line system) system.initial (length system.steps) system.states
IsHeader-header_line system initial steps states = record {
  gap = 32 ∷ [];
  first = decimal system.initial;
  second = 32 ∷ decimal (length system.steps);
  third = 32 ∷ decimal system.states;
  whole = header_whole (decimal system.initial) (decimal (length system.steps)) (decimal system.states);
  blanks = refl;
  is_initial = decimal_field system.initial initial;
  is_transitions = spaced_field (length system.steps) steps;
  is_states = spaced_field system.states states;
}

header_closes : (first second third : List ℕ)
    → header_bytes first second third ≡ (codes "des (" ++ first ++ codes ", " ++ second ++ codes ", " ++ third) ++ 41 ∷ []
header_closes first second third = simp append_assoc

header_plain : (initial transitions states : ℕ) → initial ≤ 1000000 → transitions ≤ 1000000 → states ≤ 1000000
    → IsPlain (header_bytes (decimal initial) (decimal transitions) (decimal states))
header_plain initial transitions states one two three =
    let first : List ℕ = decimal initial in
    let second : List ℕ = decimal transitions in
    let third : List ℕ = decimal states in
    let last : List ℕ = third ++ codes ")" in
    let middle : List ℕ = second ++ (codes ", " ++ last) in
    let lacks : Lacks (header_bytes first second third) 10 =
    Lacks-append first (codes ", " ++ middle) 10 (Lacks-decimal initial (omega arith))
    (Lacks-append second (codes ", " ++ last) 10 (Lacks-decimal transitions (omega arith)) (Lacks-append third (codes ")") 10
    (Lacks-decimal states (omega arith)) refl)) in
    let ascii : list_all is_ascii_byte (header_bytes first second third) ≡ true =
    list_all-ascii_append first (codes ", " ++ middle) (list_all-decimal initial (omega arith))
    (list_all-ascii_append second (codes ", " ++ last) (list_all-decimal transitions (omega arith)) (list_all-ascii_append third (codes ")")
    (list_all-decimal states (omega arith)) refl)) in
    let short : length (header_bytes first second third) ≤ LINE_LIMIT =
    omega (
      arith,
      length-append first (codes ", " ++ middle),
      length-append second (codes ", " ++ last),
      length-append third
          (codes ")"),
      length-decimal initial one,
      length-decimal transitions two,
      length-decimal states three,
    ) in
    closed 100 (codes "es (" ++ (first ++ (codes ", " ++ middle)))
    (codes "des (" ++ first ++ codes ", " ++ second ++ codes ", " ++ third) (header_closes first second third) refl lacks
    (IsUtf8-list_all (header_bytes first second third) ascii) short

pub IsPlain-header_line : (system : System) → system.initial ≤ 1000000 → length system.steps ≤ 1000000 → system.states ≤ 1000000 → IsPlain (header_line system)
IsPlain-header_line system initial steps states = header_plain system.initial (length system.steps) system.states initial steps states

-- ---- a step without its LF: what stands before its label, and behind it
abbrev pub step_opening : List ℕ → List ℕ
step_opening first = codes "(" ++ (first ++ codes ", \"")

abbrev pub step_ending : List ℕ → List ℕ
step_ending last = codes "\", " ++ (last ++ codes ")")

abbrev pub step_bytes : List ℕ → List ℕ → List ℕ → List ℕ
step_bytes first label last = step_opening first ++ (label ++ step_ending last)

abbrev pub step_line : Step → List ℕ
step_line step = step_bytes (decimal step.source) step.label (decimal step.target)

pub step_text_line : (step : Step) (rest : List ℕ) → step_text step ++ rest ≡ step_line step ++ 10 ∷ rest
step_text_line step rest = simp append_assoc

step_whole : (first label last : List ℕ) → step_bytes first label last ≡ 40 ∷ first ++ 44 ∷ (32 ∷ 34 ∷ label ++ 34 ∷ []) ++ 44 ∷ (32 ∷ last) ++ 41 ∷ []
step_whole first label last = simp append_assoc

pub IsStepLine-step_line : (step : Step) → step.source < 2 ^ 64 → step.target < 2 ^ 64 → IsStepLine (step_line step) step
IsStepLine-step_line step source target =
    let is_transition : IsTransition (step_line step) step.source (34 ∷ step.label ++ 34 ∷ []) step.target = record {
      first = decimal step.source;
      middle = 32 ∷ 34 ∷ step.label ++ 34 ∷ [];
      last = 32 ∷ decimal step.target;
      whole = step_whole (decimal step.source) step.label (decimal step.target);
      is_source = decimal_field step.source source;
      is_field = sym (trimmed-quoted (32 ∷ []) step.label [] refl refl);
      is_target = spaced_field step.target target;
    } in
    (34 ∷ step.label ++ 34 ∷ [], is_transition, IsLabelField.quoted refl)

step_closes : (first label last : List ℕ) → step_bytes first label last ≡ (step_opening first ++ label ++ codes "\", " ++ last) ++ 41 ∷ []
step_closes first label last = simp append_assoc

step_plain : (source target : ℕ) (label : List ℕ) → source ≤ 1000000 → target ≤ 1000000 → IsLabel label → IsUtf8 label
    → IsPlain (step_bytes (decimal source) label (decimal target))
step_plain source target label one two is_label utf8 =
    let first : List ℕ = decimal source in
    let last : List ℕ = decimal target in
    let rest : List ℕ = label ++ step_ending last in
    let lacks : Lacks (step_bytes first label last) 10 =
    Lacks-append (step_opening first) rest 10 (Lacks-append first (codes ", \"") 10 (Lacks-decimal source (omega arith)) refl)
    (Lacks-append label (step_ending last) 10 (Lacks-from_no_Contains label 10 is_label.one_line) (Lacks-append last (codes ")") 10
    (Lacks-decimal target (omega arith)) refl)) in
    let opening : IsUtf8 (step_opening first) = IsUtf8-list_all (step_opening first)
    (list_all-ascii_append first (codes ", \"") (list_all-decimal source (omega arith)) refl) in
    let ending : IsUtf8 (step_ending last) = IsUtf8-list_all (step_ending last) (list_all-ascii_append last (codes ")")
    (list_all-decimal target (omega arith)) refl) in
    let short : length (step_bytes first label last) ≤ LINE_LIMIT =
    omega (
      arith,
      length-append (step_opening first) rest,
      length-append first (codes ", \""),
      length-append label (step_ending last),
      length-append last
          (codes ")"),
      length-decimal source one,
      length-decimal target two,
      is_label.short,
    ) in
    closed 40 ((first ++ codes ", \"") ++ rest) (step_opening first ++ label ++ codes "\", " ++ last) (step_closes first label last) refl lacks
    (IsUtf8-append (step_opening first) rest opening (IsUtf8-append label (step_ending last) utf8 ending)) short

pub IsPlain-step_line : (step : Step) → step.source ≤ 1000000 → step.target ≤ 1000000 → IsLabel step.label → IsUtf8 step.label → IsPlain (step_line step)
IsPlain-step_line step source target is_label utf8 = step_plain step.source step.target step.label source target is_label utf8
