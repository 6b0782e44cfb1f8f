-- What is read at the front of a text, or the fault there: a function of the text, for as many steps as are granted.
use Rattle.std.proofs.Common.{◌≡◌, ◌∙◌, ℕ, zero, suc, ◌+◌, ◌≤◌, List, [], refl, sym, ap, arith}
use Rattle.std.specs.Prelude.{◌≢◌}
use Rattle.spectro_io.specs.Blanks.{skip_blanks}
use Rattle.spectro_hmltext.specs.declared.error.TextKind.{TextKind}
use Rattle.spectro_hmltext.specs.declared.error.TextKind.TheVariants.{Unexpected, UnexpectedEnd}
use Rattle.spectro_hmltext.specs.declared.token.Token.{Token}
use Rattle.spectro_hmltext.specs.declared.token.Token.TheVariants.{End}
use Rattle.spectro_hmltext.specs.Tokens.{token_of}
use Rattle.spectro_hmltext.specs.Faults.{IsMisplaced}

-- a value and the rest, or what is left from the fault on and its kind
pub data Outcome (A : Type 0) : Type 0 where
  given : A → List ℕ → Outcome A
  fault : List ℕ → TextKind → Outcome A

-- the outcome with another value
abbrev pub mapped : {A B : Type 0} → (A → B) → Outcome A → Outcome B
mapped change (given value rest) = given (change value) rest
mapped change (fault left kind) = fault left kind

abbrev misplaced_at : {A : Type 0} → Token → List ℕ → Outcome A
misplaced_at End text = fault [] UnexpectedEnd
misplaced_at _ text = fault (skip_blanks text) Unexpected

-- the first token of the text can't stand there
abbrev pub misplaced : {A : Type 0} → List ℕ → Outcome A
misplaced text = misplaced_at (token_of text) text

misplaced_at-other : {A : Type 0} (token : Token) (text : List ℕ) → token ≢ End → misplaced_at {A = A} token text ≡ fault (skip_blanks text) Unexpected
misplaced_at-other End text not_end = absurd (not_end refl)
misplaced_at-other _ text not_end = refl

-- equal parts make equal faults
pub same_fault : {A : Type 0} (one two : List ℕ) (kind other : TextKind) → one ≡ two → kind ≡ other → ◌≡◌ {A = Outcome A} (fault two other) (fault one kind)
same_fault one two kind other same kinds = ap (λ left. fault left other) (sym same) ∙ ap (fault one) (sym kinds)

-- where the first token can't stand, that is the outcome
pub misplaced_fault : {A : Type 0} (text left : List ℕ) (kind : TextKind) → IsMisplaced text left kind → misplaced {A = A} text ≡ fault left kind
misplaced_fault text left kind (IsMisplaced.no_token ends is_left is_kind) = ap (λ token. misplaced_at token text) ends
    ∙ same_fault left [] kind UnexpectedEnd is_left is_kind
misplaced_fault text left kind (IsMisplaced.other_token not_end is_left is_kind) = misplaced_at-other (token_of text) text not_end
    ∙ same_fault left (skip_blanks text) kind Unexpected is_left is_kind

-- with as many steps as this or more the outcome is so
pub record Settles (A : Type 0) (read : ℕ → Outcome A) (outcome : Outcome A) : Type 0 where
  pub steps : ℕ
  pub settled : (granted : ℕ) → steps ≤ granted → read granted ≡ outcome

-- an outcome is the only one
pub one_outcome : {A : Type 0} (read : ℕ → Outcome A) (one two : Outcome A) → Settles A read one → Settles A read two → one ≡ two
one_outcome read one two first second = sym (first.settled (first.steps + second.steps) (omega arith))
    ∙ second.settled (first.steps + second.steps) (omega arith)

-- what is so behind one step
pub settles_behind : {A : Type 0} (read : ℕ → Outcome A) (outcome : Outcome A) (steps : ℕ)
    → ((granted : ℕ) → steps ≤ granted → read (suc granted) ≡ outcome) → Settles A read outcome
settles_behind read outcome steps behind = record { steps = suc steps; settled = settled }
  where
    settled : (granted : ℕ) → suc steps ≤ granted → read granted ≡ outcome
    settled zero within = absurd (omega arith)
    settled (suc granted) within = behind granted (omega arith)

-- what is changed of an outcome is settled with it
pub settles_changed : {A B : Type 0} (read : ℕ → Outcome A) (outcome : Outcome A) (change : Outcome A → Outcome B) → Settles A read outcome
    → Settles B (λ granted. change (read granted)) (change outcome)
settles_changed read outcome change settles = record { steps = settles.steps; settled = λ granted within. ap change (settles.settled granted within) }
