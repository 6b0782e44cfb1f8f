-- A form is found by its verb.
use Rattle.std.proofs.Common.{◌≡◌, ℕ, ◌<◌, zero, suc, Bool, true, false, List, [], ◌∷◌, length, slice_index_or, if◌then◌else◌, refl, sym, ap, ◌∙◌, arith}
use Rattle.std.specs.Prelude.{Contains, Some, find}
use Rattle.std.specs.Cmp.{IsEquivalence}
use Rattle.std.specs.List.{AllByRecursion, IsDistinct}
use Rattle.std.specs.Str.{bytes_eq}
use Rattle.std.proofs.lemmas.Cmp.{nat_list_eq_equiv}
use Rattle.std.proofs.lemmas.Map.Keys.{IsDistinct-head, IsDistinct-tail}
use Rattle.spectro_words.specs.Words.{Word}
use Rattle.spectro_words.specs.Forms.{Form}

-- the form has the verb
abbrev pub has_verb : Word → Form → Bool
has_verb verb form = bytes_eq verb form.verb

-- the forms have the same verb
abbrev pub same_verb : Form → Form → Bool
same_verb one other = has_verb one.verb other

pub same_verb_equiv : IsEquivalence same_verb
same_verb_equiv = record {
  refl = λ one. nat_list_eq_equiv.refl one.verb;
  symm = λ one other. nat_list_eq_equiv.symm one.verb other.verb;
  congr = λ one other third. nat_list_eq_equiv.congr one.verb other.verb third.verb;
}

-- what is found is in the list, and passes the test
pub record IsFound {X : Type 0} (test : X → Bool) (xs : List X) (x : X) : Type 0 where
  pub listed : Contains xs x
  pub passes : test x ≡ true

found_first : {X : Type 0} (test : X → Bool) (passes : Bool) (first : X) (xs : List X) (x : X) → test first ≡ passes
    → (find test xs ≡ Some x → IsFound test xs x) → (if passes then Some first else find test xs) ≡ Some x → IsFound test (first ∷ xs) x
found_first test true first xs x passes later found =
    let same : first ≡ x = cc in record { listed = (0, omega arith, same); passes = ap test (sym same) ∙ passes }
found_first test false first xs x passes later found =
    let is = later found in
    let (k, below, at) = is.listed in
    record { listed = (suc k, omega arith, at); passes = is.passes }

pub found_is_listed : {X : Type 0} (test : X → Bool) (xs : List X) (x : X) → find test xs ≡ Some x → IsFound test xs x
found_is_listed test [] x found = cc
found_is_listed test (first ∷ xs) x found = found_first test (test first) first xs x refl (found_is_listed test xs x) found

-- one of the forms has another verb, where all have
other_verb : (form : Form) (forms : List Form) (k : ℕ) (other : Form) → AllByRecursion (λ each. same_verb form each ≡ false) forms
    → k < length forms → slice_index_or forms k other ≡ other → same_verb form other ≡ false
other_verb form [] k other differ below at = absurd (omega arith)
other_verb form (first ∷ forms) zero other differ below at = ap (same_verb form) (sym at) ∙ differ.0
other_verb form (first ∷ forms) (suc k) other differ below at = other_verb form forms k other differ.1 (omega arith) at

found_at : (forms : List Form) (form : Form) (k : ℕ) → IsDistinct same_verb forms → k < length forms → slice_index_or forms k form ≡ form
    → find (has_verb form.verb) forms ≡ Some form
found_at [] form k distinct below at = absurd (omega arith)
found_at (first ∷ forms) form zero distinct below at =
    let same : first ≡ form = at in
    let verbs : has_verb form.verb first ≡ true = ap (has_verb form.verb) same ∙ nat_list_eq_equiv.refl form.verb in
    rw verbs (ap Some same)
found_at (first ∷ forms) form (suc k) distinct below at =
    let differ : same_verb first form ≡ false = other_verb first forms k form (IsDistinct-head same_verb first forms distinct) (omega arith) at in
    let verbs : has_verb form.verb first ≡ false = same_verb_equiv.symm form first ∙ differ in
    rw verbs (found_at forms form k (IsDistinct-tail same_verb first forms distinct) (omega arith) at)

-- a form is found by its verb, where no two have the same
pub find-verb : (forms : List Form) (form : Form) → IsDistinct same_verb forms → Contains forms form → find (has_verb form.verb) forms ≡ Some form
find-verb forms form distinct (k, below, at) = found_at forms form k distinct below at
