-- A command is read of the words exactly where they fill its form.
use Rattle.std.proofs.Common.{◌≡◌, ◌≤◌, Bool, true, false, List, [], ◌∷◌, ◌++◌, length, take, drop, if◌then◌else◌, refl, sym, ap, subst, ◌∙◌, arith}
use Rattle.std.specs.Prelude.{Contains, Option, Some, None, find, nat_eq, nat_le, option_and_then}
use Rattle.std.specs.List.{IsDistinct, All}
use Rattle.std.specs.Set.{distinct_count}
use Rattle.std.specs.Str.{bytes_eq}
use Rattle.std.proofs.lemmas.Bool.{leb-true, le-leb, eqb-true}
use Rattle.std.proofs.lemmas.Cmp.{nat_list_eq_equiv}
use Rattle.std.proofs.lemmas.List.{take-append-drop, length-take, length-append}
use Rattle.std.proofs.lemmas.List.Elements.{All-contains}
use Rattle.std.proofs.lemmas.List.Sums.{AllPass-from_list_all}
use Rattle.std.proofs.lemmas.Map.Made.{IsDistinct-from_count}
use Rattle.std.proofs.lemmas.Option.{option_and_then_some}
use Rattle.std.proofs.lemmas.Slice.Eq.{bytes_eq-Decides}
use Rattle.std.proofs.Math.Seq.{take-append_seam, drop-append_seam}
use Rattle.spectro_words.specs.Words.{Word}
use Rattle.spectro_words.specs.Commands.{Command}
use Rattle.spectro_words.specs.Forms.{Form, Fill, words_of_options}
use Rattle.spectro_words.specs.Grammar.{IsCommand, forms}
use Rattle.spectro_words.specs.Reading.{command, command_of_form, options_of}
use Rattle.spectro_words.proofs.OptionWords.{options_are, options_read}
use Rattle.spectro_words.proofs.Verbs.{find-verb, found_is_listed, has_verb, same_verb, same_verb_equiv}

-- the words after the verb fill the form, and the command is that of what fills it
record IsFilled (form : Form) (words : List Word) (asked : Command) : Type 0 where
  placed : List Word
  given : List (Option Word)
  filled : Fill (form.verb ∷ words) form placed given
  command : form.command placed given ≡ Some asked

-- what is read under a condition is read where it holds
record IsRead (holds : Bool) (read : Option Command) (asked : Command) : Type 0 where
  condition : holds ≡ true
  command : read ≡ Some asked

read_under : (holds : Bool) (read : Option Command) (asked : Command) → (if holds then read else None) ≡ Some asked → IsRead holds read asked
read_under true read asked is_read = record { condition = refl; command = is_read }
read_under false read asked is_read = cc

-- where a command of the form is read of the words, they fill the form
form_is_filled : (form : Form) (words : List Word) (asked : Command) → command_of_form words form ≡ Some asked → IsFilled form words asked
form_is_filled form words asked is_read =
    let placed : List Word = take form.places words in
    let options : Option (List (Option Word)) = options_of form.options (drop form.places words) in
    let read = read_under (nat_le form.places (length words)) (option_and_then (form.command placed) options) asked is_read in
    let long : form.places ≤ length words = leb-true form.places (length words) read.condition in
    option_and_then_some (form.command placed) options asked read.command (λ given are_given command.
    let are = options_are form.options (drop form.places words) given are_given in
    let after_verb = sym (take-append-drop form.places words) ∙ ap (λ rest. placed ++ rest) are.written in
    let filled : Fill (form.verb ∷ words) form placed given = record {
      places = omega (arith, length-take form.places words);
      options = are.options;
      written = ap (λ rest. form.verb ∷ rest) after_verb;
    } in
    record { placed = placed; given = given; filled = filled; command = command })

-- where the words fill the form, its command is read of them
filled_is_read : (form : Form) (words : List Word) (asked : Command) → IsDistinct bytes_eq form.options → IsFilled form words asked
    → command_of_form words form ≡ Some asked
filled_is_read form words asked distinct is =
    let placed : List Word = is.placed in
    let rest : List Word = words_of_options form.options is.given in
    let words_are : words ≡ placed ++ rest = cc in
    let long : nat_le form.places (length words) ≡ true =
    le-leb form.places (length words) (omega (arith, ap length words_are, length-append placed rest)) in
    let front : take form.places words ≡ placed =
    ap (λ n. take n words) (sym is.filled.places) ∙ ap (take (length placed)) words_are ∙ take-append_seam placed rest in
    let back : drop form.places words ≡ rest =
    ap (λ n. drop n words) (sym is.filled.places) ∙ ap (drop (length placed)) words_are ∙ drop-append_seam placed rest in
    let options : options_of form.options rest ≡ Some is.given = options_read form.options is.given distinct is.filled.options in
    simp (long, front, back, options) is.command

-- no two forms have the same verb
verbs_are_distinct : IsDistinct same_verb forms
verbs_are_distinct = IsDistinct-from_count same_verb_equiv forms refl

-- whether no two of the names are the same
abbrev are_distinct : List Word → Bool
are_distinct names = nat_eq (distinct_count bytes_eq names) (length names)

-- no two options of a form have the same name
names_are_distinct : (form : Form) → Contains forms form → IsDistinct bytes_eq form.options
names_are_distinct form listed =
    let all : All (λ form. are_distinct form.options ≡ true) forms = AllPass-from_list_all (λ form. are_distinct form.options) forms refl in
    let counted : are_distinct form.options ≡ true = All-contains (λ form. are_distinct form.options ≡ true) forms form all listed in
    IsDistinct-from_count nat_list_eq_equiv form.options (eqb-true (distinct_count bytes_eq form.options) (length form.options) counted)

pub command_is : (words : List Word) (asked : Command) → command words ≡ Some asked → IsCommand words asked
command_is [] asked is_read = cc
command_is (verb ∷ words) asked is_read =
    option_and_then_some (command_of_form words) (find (has_verb verb) forms) asked is_read (λ form is_form is_command.
    let found = found_is_listed (has_verb verb) forms form is_form in
    let is = form_is_filled form words asked is_command in
    let verbs : verb ≡ form.verb = (bytes_eq-Decides verb form.verb).0 found.passes in
    let FilledBy : List Word → Type 0 = λ each. Fill each form is.placed is.given in
    let filled = subst FilledBy (ap (λ first. first ∷ words) (sym verbs)) is.filled in
    record { form = form; listed = found.listed; placed = is.placed; given = is.given; filled = filled; command = is.command })

pub command_read : (words : List Word) (asked : Command) → IsCommand words asked → command words ≡ Some asked
command_read words asked is =
    let rest : List Word = is.placed ++ words_of_options is.form.options is.given in
    let found : find (has_verb is.form.verb) forms ≡ Some is.form = find-verb forms is.form verbs_are_distinct is.listed in
    let FilledBy : List Word → Type 0 = λ each. Fill each is.form is.placed is.given in
    let filled : IsFilled is.form rest asked =
    record { placed = is.placed; given = is.given; filled = subst FilledBy is.filled.written is.filled; command = is.command } in
    let read = filled_is_read is.form rest asked (names_are_distinct is.form is.listed) filled in
    ap command is.filled.written ∙ (ap (option_and_then (command_of_form rest)) found ∙ read)

pub one_command : (words : List Word) (one other : Command) → IsCommand words one → IsCommand words other → one ≡ other
one_command words one other first second =
    let both : ◌≡◌ {A = Option Command} (Some one) (Some other) = sym (command_read words one first) ∙ command_read words other second in cc
