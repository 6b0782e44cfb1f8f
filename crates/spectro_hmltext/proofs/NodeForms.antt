-- A line has one form at most, and the code finds it.
use Rattle.std.proofs.Common.{◌≡◌, ◌∙◌, ℕ, Bool, true, false, List, get_or, Some, None, refl, sym, ap, subst, arith}
use Rattle.std.specs.Prelude.{codes}
use Rattle.std.specs.Str.{bytes_eq}
use Rattle.std.proofs.lemmas.Bool.{true≢false}
use Rattle.std.proofs.lemmas.Option.{none-some}
use Rattle.std.proofs.lemmas.Slice.Eq.{bytes_eq-Decides}
use Rattle.spectro_io.specs.Blanks.{AreBlanks}
use Rattle.spectro_io.specs.Numbers.{is_number, number_value, capped, number_of}
use Rattle.spectro_io.specs.Tokens.{first_token, after_token}
use Rattle.spectro_io.proofs.Decimals.{number_of-number, number_of-found}
use Rattle.spectro_io.proofs.Tokens.{IsWord, number-IsWord}
use Rattle.spectro_hml.specs.declared.node.Clause.{Clause}
use Rattle.spectro_hmltext.specs.NodeLines.{BeginsWith, BeginsNumber, BeginsQuoted, IsObservation, AreClauses, NodeForm, see_form, all_form, first_number, word_of, IsBehindWord, IsNodeForm}
use Rattle.spectro_hmltext.specs.NodeReading.{capped_form, IsObservationRead, AreClausesRead}
use Rattle.spectro_hmltext.specs.declared.node_line.Observation.{Observation}
use Rattle.spectro_hmltext.proofs.NodeTokens.{begins_with, first_token-word, after_token-word, number-once}
use Rattle.spectro_hmltext.proofs.NodeLabels.{quoted-once}
use Rattle.spectro_hmltext.proofs.NodeClauses.{clauses-once}

-- ---- a number at the front of a text
module _ (text : List ℕ) (number : ℕ) (rest : List ℕ) (begins : BeginsNumber text number rest) where
  first_token-number : first_token text ≡ begins.digits
  first_token-number = first_token-word text begins.digits rest begins.first (number-IsWord begins.digits begins.is_number)

  pub after_token-number : after_token text ≡ rest
  after_token-number = after_token-word text begins.digits rest begins.first (number-IsWord begins.digits begins.is_number)

  pub is_number-first : is_number (first_token text) ≡ true
  is_number-first = ap is_number first_token-number ∙ begins.is_number

  pub value-first : number ≡ number_value (first_token text)
  value-first = begins.value ∙ ap number_value (sym first_token-number)

  pub number_of-first : number_of (first_token text) ≡ Some (capped number)
  number_of-first = number_of-number (first_token text) is_number-first ∙ ap (λ value. Some (capped value)) (sym value-first)

pub found-number : (text : List ℕ) → is_number (first_token text) ≡ true → BeginsNumber text (number_value (first_token text)) (after_token text)
found-number text number = record { digits = first_token text; first = begins_with text; is_number = number; value = refl }

-- ---- observations
pub observation-once : (text inside other : List ℕ) (next number : ℕ) → IsObservation text inside next → IsObservation text other number
    → (inside ≡ other) × (next ≡ number)
observation-once text inside other next number one two =
    let quoted = quoted-once text inside one.rest other two.rest one.quoted two.quoted in
    (quoted.0, (number-once two.rest next number one.back two.back (subst (λ rest. BeginsNumber rest next one.back) quoted.1 one.number) two.number).0)

module _ (text inside rest : List ℕ) (quoted : BeginsQuoted text inside rest) where
  pub number_after : (other : List ℕ) (next : ℕ) (is : IsObservation text other next) → BeginsNumber rest next is.back
  number_after other next is = subst (λ rest. BeginsNumber rest next is.back) (quoted-once text other is.rest inside rest is.quoted quoted).1 is.number

  pub no_next : None ≡ number_of (first_token rest) → (other : List ℕ) (next : ℕ) → ¬ IsObservation text other next
  no_next none other next is = none-some (capped next) (none ∙ number_of-first rest next is.back (number_after other next is))

  pub no_end : (AreBlanks (after_token rest) → ⊥) → (other : List ℕ) (next : ℕ) → ¬ IsObservation text other next
  no_end more other next is = more (subst AreBlanks (sym (after_token-number rest next is.back (number_after other next is))) is.end)

  pub found-observation : is_number (first_token rest) ≡ true → AreBlanks (after_token rest) → IsObservation text inside (number_value (first_token rest))
  found-observation number end = record { rest = rest; back = after_token rest; quoted = quoted; number = found-number rest number; end = end }

-- ---- forms
pub word-IsWord : (form : NodeForm) → IsWord (word_of form)
word-IsWord (see_form number inside next) = record { some = omega arith; no_blank = refl }
word-IsWord (all_form number clauses) = record { some = omega arith; no_blank = refl }

-- the form, as its tokens show it
pub record HasTokens (line : List ℕ) (form : NodeForm) : Type 0 where
  pub number : is_number (first_token line) ≡ true
  pub value : first_number form ≡ number_value (first_token line)
  pub word : first_token (after_token line) ≡ word_of form
  pub others : IsBehindWord (after_token (after_token line)) form

pub form-HasTokens : (line : List ℕ) (form : NodeForm) → IsNodeForm line form → HasTokens line form
form-HasTokens line form is =
    let behind_number : after_token line ≡ is.behind_number = after_token-number line (first_number form) is.behind_number is.number in
    let word : first_token is.behind_number ≡ word_of form = first_token-word is.behind_number (word_of form) is.behind_word is.word (word-IsWord form) in
    let behind_word : after_token is.behind_number ≡ is.behind_word = after_token-word is.behind_number (word_of form) is.behind_word is.word
    (word-IsWord form) in
    record {
      number = is_number-first line (first_number form) is.behind_number is.number;
      value = value-first line (first_number form) is.behind_number is.number;
      word = ap first_token behind_number ∙ word;
      others = subst (λ text. IsBehindWord text form) (sym (ap after_token behind_number ∙ behind_word)) is.others;
    }

pub tokens-IsNodeForm : (line : List ℕ) (form : NodeForm) → HasTokens line form → IsNodeForm line form
tokens-IsNodeForm line form has = record {
  behind_number = after_token line;
  behind_word = after_token (after_token line);
  number = record { digits = first_token line; first = begins_with line; is_number = has.number; value = has.value };
  word = subst (λ word. BeginsWith (after_token line) word (after_token (after_token line))) has.word (begins_with (after_token line));
  others = has.others;
}

see≢all : codes "see" ≡ codes "all" → ⊥
see≢all e =
    let first : 115 ≡ 97 = ap (λ word. get_or word 0 0) e in
    absurd (omega (arith, first))

tokens-once : (line : List ℕ) (form other : NodeForm) → HasTokens line form → HasTokens line other → form ≡ other
tokens-once line (see_form number inside next) (see_form first others last) one two =
    let same_number : number ≡ first = one.value ∙ sym two.value in
    let same = observation-once (after_token (after_token line)) inside others next last one.others two.others in
    let same_inside : inside ≡ others = same.0 in
    let same_next : next ≡ last = same.1 in
    cc
tokens-once line (see_form number inside next) (all_form first clauses) one two = absurd (see≢all (sym one.word ∙ two.word))
tokens-once line (all_form number clauses) (see_form first inside next) one two = absurd (see≢all (sym two.word ∙ one.word))
tokens-once line (all_form number clauses) (all_form first others) one two =
    let same_number : number ≡ first = one.value ∙ sym two.value in
    let same : clauses ≡ others = clauses-once (after_token (after_token line)) clauses others one.others two.others in
    cc

pub form-once : (line : List ℕ) (form other : NodeForm) → IsNodeForm line form → IsNodeForm line other → form ≡ other
form-once line form other one two = tokens-once line form other (form-HasTokens line form one) (form-HasTokens line other two)

-- ---- lines without a form
pub no_number : (line : List ℕ) → None ≡ number_of (first_token line) → (form : NodeForm) → ¬ IsNodeForm line form
no_number line none form is = none-some (capped (first_number form)) (none ∙ number_of-first line (first_number form) is.behind_number is.number)

pub no_word : (line : List ℕ) → (first_token (after_token line) ≡ codes "see" → ⊥) → (first_token (after_token line) ≡ codes "all" → ⊥) → (form : NodeForm)
    → ¬ IsNodeForm line form
no_word line not_see not_all form is = by form (form-HasTokens line form is)
  where
    by : (form : NodeForm) → HasTokens line form → ⊥
    by (see_form number inside next) has = not_see has.word
    by (all_form number clauses) has = not_all has.word

pub no_observation : (line : List ℕ) → first_token (after_token line) ≡ codes "see"
    → ((inside : List ℕ) (next : ℕ) → ¬ IsObservation (after_token (after_token line)) inside next) → (form : NodeForm) → ¬ IsNodeForm line form
no_observation line see none form is = by form (form-HasTokens line form is)
  where
    by : (form : NodeForm) → HasTokens line form → ⊥
    by (see_form number inside next) has = none inside next has.others
    by (all_form number clauses) has = see≢all (sym see ∙ has.word)

pub no_clauses : (line : List ℕ) → first_token (after_token line) ≡ codes "all"
    → ((clauses : List Clause) → ¬ AreClauses (after_token (after_token line)) clauses) → (form : NodeForm) → ¬ IsNodeForm line form
no_clauses line all none form is = by form (form-HasTokens line form is)
  where
    by : (form : NodeForm) → HasTokens line form → ⊥
    by (see_form number inside next) has = see≢all (sym has.word ∙ all)
    by (all_form number clauses) has = none clauses has.others

-- ---- what the code takes of a line
-- the first two tokens, and what stands behind them
pub record AreTokens (line digits word behind : List ℕ) : Type 0 where
  pub digits_are : digits ≡ first_token line
  pub word_is : word ≡ first_token (after_token line)
  pub behind_is : behind ≡ after_token (after_token line)

pub tokens_taken : (line bytes digits rest word behind : List ℕ) → bytes ≡ line → digits ≡ first_token bytes → rest ≡ after_token bytes
    → word ≡ first_token rest → behind ≡ after_token rest → AreTokens line digits word behind
tokens_taken line bytes digits rest word behind same first after second last =
    let rest_is : rest ≡ after_token line = after ∙ ap after_token same in
    record { digits_are = first ∙ ap first_token same; word_is = second ∙ ap first_token rest_is; behind_is = last ∙ ap after_token rest_is }

pub same_word : (word literal text : List ℕ) (test : Bool) → test ≡ bytes_eq word literal → literal ≡ text → test ≡ true → word ≡ text
same_word word literal text test is same holds = (bytes_eq-Decides word literal).0 (sym is ∙ holds) ∙ same

pub other_word : (word literal text : List ℕ) (test : Bool) → test ≡ bytes_eq word literal → literal ≡ text → test ≡ false → word ≡ text → ⊥
other_word word literal text test is same fails equal = true≢false (sym ((bytes_eq-Decides word literal).1 (equal ∙ sym same)) ∙ sym is ∙ fails)

-- the form of a line, of which this is read
pub record IsFormRead (line : List ℕ) (read : NodeForm) : Type 0 where
  pub form : NodeForm
  pub is : IsNodeForm line form
  pub same : read ≡ capped_form form

module _ (line digits word behind : List ℕ) (tokens : AreTokens line digits word behind) where
  pub word-refused : (word ≡ codes "see" → ⊥) → (word ≡ codes "all" → ⊥) → (form : NodeForm) → ¬ IsNodeForm line form
  word-refused not_see not_all = no_word line (λ see. not_see (tokens.word_is ∙ see)) (λ all. not_all (tokens.word_is ∙ all))

  pub observation-refused : word ≡ codes "see" → ((inside : List ℕ) (next : ℕ) → ¬ IsObservation behind inside next) → (form : NodeForm)
      → ¬ IsNodeForm line form
  observation-refused see none = no_observation line (sym tokens.word_is
      ∙ see) (subst (λ text. (inside : List ℕ) (next : ℕ) → ¬ IsObservation text inside next) tokens.behind_is none)

  pub clauses-refused : word ≡ codes "all" → ((clauses : List Clause) → ¬ AreClauses behind clauses) → (form : NodeForm) → ¬ IsNodeForm line form
  clauses-refused all none = no_clauses line (sym tokens.word_is
      ∙ all) (subst (λ text. (clauses : List Clause) → ¬ AreClauses text clauses) tokens.behind_is none)

  module _ (number : ℕ) (found : Some number ≡ number_of digits) where
    first : (is_number (first_token line) ≡ true) × (number ≡ capped (number_value (first_token line)))
    first = number_of-found (first_token line) number (found ∙ ap number_of tokens.digits_are)

    pub see-IsNodeForm : (observation : Observation) → word ≡ codes "see" → (read : IsObservationRead behind observation)
        → IsNodeForm line (see_form (number_value (first_token line)) observation.inside.now read.next)
    see-IsNodeForm observation see read =
        tokens-IsNodeForm line (see_form (number_value (first_token line)) observation.inside.now read.next)
        (record {
          number = first.0;
          value = refl;
          word = sym tokens.word_is ∙ see;
          others = subst
              (λ text. IsObservation text observation.inside.now read.next) tokens.behind_is read.is;
        })

    pub see_read : (observation : Observation) (inside : List ℕ) → word ≡ codes "see" → IsObservationRead behind observation
        → inside ≡ observation.inside.now → IsFormRead line (see_form number inside observation.next)
    see_read observation inside see read text =
        let value : number ≡ capped (number_value (first_token line)) = first.1 in
        let next : observation.next ≡ capped read.next = read.value in
        record {
          form = see_form (number_value (first_token line)) observation.inside.now read.next;
          is = see-IsNodeForm observation see read;
          same = ap (λ number. see_form number inside observation.next) value
              ∙ ap (λ inside. see_form (capped (number_value (first_token line))) inside observation.next) text
              ∙ ap (λ next. see_form (capped (number_value (first_token line))) observation.inside.now next) next;
        }

    pub all_read : (kept : List Clause) → word ≡ codes "all" → AreClausesRead behind kept → IsFormRead line (all_form number kept)
    all_read kept all read = record {
      form = all_form (number_value (first_token line)) read.clauses;
      is = tokens-IsNodeForm line (all_form (number_value (first_token line)) read.clauses) (record {
        number = first.0;
        value = refl;
        word = sym tokens.word_is ∙ all;
        others = subst (λ text. AreClauses text read.clauses) tokens.behind_is read.are;
      });
      same = ap (λ number. all_form number kept) first.1 ∙ ap (λ clauses. all_form (capped (number_value (first_token line))) clauses) read.values;
    }
