-- Options are read of their words, and of these alone.
use Rattle.std.proofs.Common.{◌≡◌, Bool, true, false, List, [], ◌∷◌, length, if◌then◌else◌, refl, sym, ap, ◌∙◌, arith}
use Rattle.std.specs.Prelude.{Option, Some, None}
use Rattle.std.specs.Option.{option_map}
use Rattle.std.specs.List.{AllByRecursion, IsDistinct}
use Rattle.std.specs.Str.{bytes_eq}
use Rattle.std.proofs.lemmas.Cmp.{nat_list_eq_equiv}
use Rattle.std.proofs.lemmas.Map.Keys.{IsDistinct-head, IsDistinct-tail}
use Rattle.std.proofs.lemmas.Slice.Eq.{bytes_eq-Decides}
use Rattle.spectro_words.specs.Words.{Word}
use Rattle.spectro_words.specs.Forms.{words_of_options}
use Rattle.spectro_words.specs.Reading.{option_word, after_option, options_of}

-- where the words after an option are those of other options, the words are those of this option and the others
begun_words : (same : Bool) (name first word : Word) (words names : List Word) (given : List (Option Word)) → (same ≡ true → first ≡ name)
    → (if same then words else (first ∷ word ∷ words)) ≡ words_of_options names given
    → first ∷ word ∷ words ≡ words_of_options (name ∷ names) ((if same then Some word else None) ∷ given)
begun_words true name first word words names given is_name after = let named : first ≡ name = is_name refl in cc
begun_words false name first word words names given is_name after = after

option_and_after : (name : Word) (words names : List Word) (given : List (Option Word)) → after_option name words ≡ words_of_options names given
    → words ≡ words_of_options (name ∷ names) (option_word name words ∷ given)
option_and_after name [] names given after = after
option_and_after name (first ∷ []) names given after = after
option_and_after name (first ∷ word ∷ words) names given after =
    begun_words (bytes_eq first name) name first word words names given (bytes_eq-Decides first name).0 after

-- the words are those of the options with these names
pub record AreOptions (names words : List Word) (given : List (Option Word)) : Type 0 where
  pub options : length given ≡ length names
  pub written : words ≡ words_of_options names given

-- one option before those that were read
first_of_options : (name : Word) (names words : List Word) (read : Option (List (Option Word))) (given : List (Option Word))
    → ((others : List (Option Word)) → read ≡ Some others → AreOptions names (after_option name words) others)
    → option_map (λ others. option_word name words ∷ others) read ≡ Some given → AreOptions (name ∷ names) words given
first_of_options name names words None given are_others is_read = cc
first_of_options name names words (Some others) given are_others is_read =
    let are : AreOptions names (after_option name words) others = are_others others refl in
    let all : option_word name words ∷ others ≡ given = cc in
    record {
      options = let same : length (option_word name words ∷ others) ≡ length given = ap length all in omega arith;
      written = option_and_after name words names others are.written ∙ ap (words_of_options (name ∷ names)) all;
    }

pub options_are : (names words : List Word) (given : List (Option Word)) → options_of names words ≡ Some given → AreOptions names words given
options_are [] [] given read = let none : [] ≡ given = cc in record { options = ap length (sym none); written = refl }
options_are [] (word ∷ words) given read = cc
options_are (name ∷ names) words given read =
    let others = λ (others : List (Option Word)). options_are names (after_option name words) others in
    first_of_options name names words (options_of names (after_option name words)) given others read

-- the words do not begin with the option
record BeginOtherwise (name : Word) (words : List Word) : Type 0 where
  word : option_word name words ≡ None
  after : after_option name words ≡ words

-- the words of options do not begin with one that is none of them
others_begin : (name : Word) (names : List Word) (given : List (Option Word)) → AllByRecursion (λ other. bytes_eq name other ≡ false) names
    → BeginOtherwise name (words_of_options names given)
others_begin name [] given differ = record { word = refl; after = refl }
others_begin name (other ∷ names) [] differ = record { word = refl; after = refl }
others_begin name (other ∷ names) (Some word ∷ given) differ =
    let differs : bytes_eq other name ≡ false = nat_list_eq_equiv.symm other name ∙ differ.0 in record { word = rw differs; after = rw differs }
others_begin name (other ∷ names) (None ∷ given) differ = others_begin name names given differ.1

pub options_read : (names : List Word) (given : List (Option Word)) → IsDistinct bytes_eq names → length given ≡ length names
    → options_of names (words_of_options names given) ≡ Some given
options_read [] [] distinct options = refl
options_read [] (word ∷ given) distinct options = absurd (omega arith)
options_read (name ∷ names) [] distinct options = absurd (omega arith)
options_read (name ∷ names) (Some word ∷ given) distinct options =
    let others = options_read names given (IsDistinct-tail bytes_eq name names distinct) (omega arith) in
    simp (nat_list_eq_equiv.refl name, others)
options_read (name ∷ names) (None ∷ given) distinct options =
    let others = options_read names given (IsDistinct-tail bytes_eq name names distinct) (omega arith) in
    let otherwise = others_begin name names given (IsDistinct-head bytes_eq name names distinct) in
    simp (otherwise.word, otherwise.after, others)
