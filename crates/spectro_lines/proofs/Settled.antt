-- Things of two kinds, of which there is exactly one.
use Rattle.std.proofs.Common.{◌≡◌, ◌∙◌, sym, ap, inl, inr}
use Rattle.std.specs.Prelude.{Result, Ok, Err, MatchResult, ◌⊎◌}

-- one value has the one property, or one fault has the other, and there is nothing else with either
pub record IsSettled {A B : Type 0} (P : A → Type 0) (Q : B → Type 0) : Type 0 where
  pub answer : Result A B
  pub is_so : MatchResult answer P Q
  pub once : (other : Result A B) → MatchResult other P Q → other ≡ answer

-- the same from cases
pub settled_by : {A B : Type 0} (P : A → Type 0) (Q : B → Type 0) → ((value : A) × P value) ⊎ ((fault : B) × Q fault)
    → ((one other : A) → P one → P other → one ≡ other)
    → ((one other : B) → Q one → Q other → one ≡ other) → ((value : A) (fault : B) → P value → Q fault → ⊥) → IsSettled P Q
settled_by {A} {B} P Q (inl found) one_value one_fault not_both = record { answer = Ok found.0; is_so = found.1; once = once }
  where
    once : (other : Result A B) → MatchResult other P Q → other ≡ Ok found.0
    once (Ok value) is = ap Ok (one_value value found.0 is found.1)
    once (Err fault) is = absurd (not_both found.0 fault found.1 is)
settled_by {A} {B} P Q (inr found) one_value one_fault not_both = record { answer = Err found.0; is_so = found.1; once = once }
  where
    once : (other : Result A B) → MatchResult other P Q → other ≡ Err found.0
    once (Ok value) is = absurd (not_both value found.0 is found.1)
    once (Err fault) is = ap Err (one_fault fault found.0 is found.1)

module _ {A B : Type 0} (P : A → Type 0) (Q : B → Type 0) (settled : IsSettled P Q) where
  pub one_value : (one other : A) → P one → P other → one ≡ other
  one_value one other first second =
      let same : ◌≡◌ {A = Result A B} (Ok one) (Ok other) = settled.once (Ok one) first ∙ sym (settled.once (Ok other) second) in
      cc

  pub one_fault : (one other : B) → Q one → Q other → one ≡ other
  one_fault one other first second =
      let same : ◌≡◌ {A = Result A B} (Err one) (Err other) = settled.once (Err one) first ∙ sym (settled.once (Err other) second) in
      cc

  pub not_both : (value : A) (fault : B) → P value → Q fault → ⊥
  not_both value fault first second =
      let same : ◌≡◌ {A = Result A B} (Ok value) (Err fault) = settled.once (Ok value) first ∙ sym (settled.once (Err fault) second) in
      cc

  pub one_or_other : ((value : A) × P value) ⊎ ((fault : B) × Q fault)
  one_or_other = by settled.answer settled.is_so
    where
      by : (answer : Result A B) → MatchResult answer P Q → ((value : A) × P value) ⊎ ((fault : B) × Q fault)
      by (Ok value) is = inl (value, is)
      by (Err fault) is = inr (fault, is)
