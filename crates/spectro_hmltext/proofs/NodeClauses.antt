-- The clauses of a line: a text is of one list of clauses at most, and how far the code has read them.
use Rattle.std.proofs.Common.{◌≡◌, ◌∙◌, ℕ, ◌==◌, Bool, true, false, cond, List, [], ◌∷◌, ◌++◌, map, Option, Some, None, refl, sym, ap, subst, inl, inr, append_assoc, append-nil}
use Rattle.std.specs.Option.{option_map}
use Rattle.std.proofs.lemmas.Bool.{cases_Bool, eqb-true}
use Rattle.std.proofs.lemmas.List.{map-append}
use Rattle.std.proofs.lemmas.Option.{none-some, same_Some}
use Rattle.spectro_io.specs.Blanks.{AreBlanks}
use Rattle.spectro_io.specs.Numbers.{is_number, number_value, capped, number_of}
use Rattle.spectro_io.specs.Tokens.{first_token, after_token}
use Rattle.spectro_io.proofs.Decimals.{number_of-number, number_of-found}
use Rattle.spectro_hml.specs.declared.node.Clause.{Clause}
use Rattle.spectro_hmltext.specs.NodeLines.{BeginsWith, BeginsClause, AreClauses, sign_of}
use Rattle.spectro_hmltext.specs.NodeReading.{capped_clause, clause_with, clause_read, AreClausesRead}
use Rattle.spectro_hmltext.proofs.NodeTokens.{begins_with, first_token-word, clause-IsWord, clause-once, word-not_blank}

-- ---- one clause
pub clause_read-clause : (positive : Bool) (digits : List ℕ) → is_number digits ≡ true
    → clause_read (sign_of positive ∷ digits) ≡ Some (record { positive = positive; node = capped (number_value digits) })
clause_read-clause true digits number = ap (option_map (λ node. record { positive = true; node = node })) (number_of-number digits number)
clause_read-clause false digits number = ap (option_map (λ node. record { positive = false; node = node })) (number_of-number digits number)

-- the token of a clause that is read
pub record IsClauseToken (token : List ℕ) (clause : Clause) : Type 0 where
  pub digits : List ℕ
  pub whole : token ≡ sign_of clause.positive ∷ digits
  pub number : is_number digits ≡ true
  pub value : clause.node ≡ capped (number_value digits)

mapped : (positive : Bool) (found : Option ℕ) (clause : Clause) → Some clause ≡ option_map (λ node. record { positive = positive; node = node }) found
    → (clause.positive ≡ positive) × (Some clause.node ≡ found)
mapped positive None clause e = absurd (none-some clause (sym e))
mapped positive (Some node) clause e =
    let same : clause ≡ record { positive = positive; node = node } = same_Some clause (record { positive = positive; node = node }) e in
    (ap (λ clause. clause.positive) same, ap (λ clause. Some clause.node) same)

signed : (byte : ℕ) (positive : Bool) (digits : List ℕ) (clause : Clause) → byte ≡ sign_of positive → Some clause ≡ clause_with positive digits
    → IsClauseToken (byte ∷ digits) clause
signed byte positive digits clause sign e =
    let parts = mapped positive (number_of digits) clause e in
    let number = number_of-found digits clause.node parts.1 in
    record { digits = digits; whole = ap (λ byte. byte ∷ digits) (sign ∙ ap sign_of (sym parts.0)); number = number.0; value = number.1 }

pub clause_read-found : (token : List ℕ) (clause : Clause) → Some clause ≡ clause_read token → IsClauseToken token clause
clause_read-found [] clause e = absurd (none-some clause (sym e))
clause_read-found (byte ∷ digits) clause e = elim (cases_Bool (byte == 43)) [
  | inl plus ↦ signed byte true digits clause (eqb-true byte 43 plus) (e
      ∙ ap (λ test. cond test (clause_with true digits) (cond (byte == 45) (clause_with false digits) None)) plus)
  | inr other ↦
      let rest : Some clause ≡ cond (byte == 45) (clause_with false digits) None = e
      ∙ ap (λ test. cond test (clause_with true digits) (cond (byte == 45) (clause_with false digits) None)) other in
      elim (cases_Bool (byte == 45)) [
        | inl minus ↦ signed byte false digits clause (eqb-true byte 45 minus) (rest ∙ ap (λ test. cond test (clause_with false digits) None) minus)
        | inr none ↦ absurd (none-some clause (sym (rest ∙ ap (λ test. cond test (clause_with false digits) None) none)))
      ]
]

-- ---- lists of clauses
begins-word : (text : List ℕ) (clause : Clause) (rest : List ℕ) → BeginsClause text clause rest → AreBlanks text → ⊥
begins-word text clause rest begins all = word-not_blank text (sign_of clause.positive ∷ begins.digits) rest begins.first
    (clause-IsWord clause.positive begins.digits begins.is_number) all

pub clauses-once : (text : List ℕ) (clauses others : List Clause) → AreClauses text clauses → AreClauses text others → clauses ≡ others
clauses-once text [] [] one two = refl
clauses-once text [] (other ∷ others) one two = absurd (begins-word text other two.0 two.1 one)
clauses-once text (clause ∷ clauses) [] one two = absurd (begins-word text clause one.0 one.1 two)
clauses-once text (clause ∷ clauses) (other ∷ others) one two =
    let same = clause-once text clause other one.0 two.0 one.1 two.1 in
    let first : clause ≡ other = same.0 in
    let later : clauses ≡ others = clauses-once two.0 clauses others (subst (λ rest. AreClauses rest clauses) same.1 one.2) two.2 in
    cc

-- the clauses before the rest were read
pub record HasReadClauses (text rest : List ℕ) (read : List Clause) : Type 0 where
  pub before : List Clause
  pub values : read ≡ map capped_clause before
  pub sound : (later : List Clause) → AreClauses rest later → AreClauses text (before ++ later)
  pub complete : (clauses : List Clause) → AreClauses text clauses → (later : List Clause) × AreClauses rest later

pub reads_all : (text rest : List ℕ) (read : List Clause) → HasReadClauses text rest read → AreBlanks rest → AreClausesRead text read
reads_all text rest read so_far end =
    record { clauses = so_far.before; are = subst (AreClauses text) (append-nil so_far.before) (so_far.sound [] end); values = so_far.values }

module _ (text rest : List ℕ) (read : List Clause) (so_far : HasReadClauses text rest read) (clause : Clause)
    (found : Some clause ≡ clause_read (first_token rest)) where
  token : IsClauseToken (first_token rest) clause
  token = clause_read-found (first_token rest) clause found

  abbrev exact : Clause
  exact = record { positive = clause.positive; node = number_value token.digits }

  begins : BeginsClause rest exact (after_token rest)
  begins = record {
    digits = token.digits;
    first = subst (λ word. BeginsWith rest word (after_token rest)) token.whole
        (begins_with rest);
    is_number = token.number;
    value = refl;
  }

  value : clause ≡ capped_clause exact
  value = let with_node : ℕ → Clause = λ node. record { positive = clause.positive; node = node } in ap with_node token.value

  behind : (later : List Clause) → AreClauses rest later → (others : List Clause) × AreClauses (after_token rest) others
  behind [] are = absurd (begins-word rest exact (after_token rest) begins are)
  behind (first ∷ others) are = (others, subst (λ rest. AreClauses rest others) (clause-once rest first exact are.0 (after_token rest) are.1 begins).1 are.2)

  pub reads_on : HasReadClauses text (after_token rest) (read ++ clause ∷ [])
  reads_on = record {
    before = so_far.before ++ exact ∷ [];
    values =
        ap (λ read. read ++ clause ∷ []) so_far.values ∙ ap (λ clause. map capped_clause so_far.before ++ clause ∷ []) value
        ∙ sym (map-append capped_clause so_far.before (exact ∷ []));
    sound = λ later are. subst (AreClauses text) (sym (append_assoc so_far.before (exact ∷ []) later))
        (so_far.sound (exact ∷ later) (after_token rest, begins, are));
    complete = λ clauses are. let later = so_far.complete clauses are in behind later.0 later.1;
  }

-- where the token is none of a clause, the text is none of clauses
pub reads_no_more : (text rest : List ℕ) (read : List Clause) → HasReadClauses text rest read → (AreBlanks rest → ⊥) → None ≡ clause_read (first_token rest)
    → (clauses : List Clause) → ¬ AreClauses text clauses
reads_no_more text rest read so_far some none clauses are = let later = so_far.complete clauses are in no_later later.0 later.1
  where
    no_later : (later : List Clause) → AreClauses rest later → ⊥
    no_later [] blank = some blank
    no_later (clause ∷ later) are =
        let first : first_token rest ≡ sign_of clause.positive ∷ are.1.digits = first_token-word rest
        (sign_of clause.positive ∷ are.1.digits) are.0 are.1.first (clause-IsWord clause.positive are.1.digits are.1.is_number) in
        none-some (record { positive = clause.positive; node = capped (number_value are.1.digits) }) (none ∙ ap clause_read first
        ∙ clause_read-clause clause.positive are.1.digits are.1.is_number)
