-- Hennessy-Milner logic.
use Rattle.std.specs.Prelude.{ℕ}
use Rattle.spectro_spec.specs.System.{System, Label, HasStep}

mutual
  pub data Formula : Type 0 where
    -- an observation: a step under the label leads to where the formula is true
    see : Label → Formula → Formula
    -- a conjunction: each of the clauses is true
    all : Clauses → Formula

  -- clauses in order, and how many one likes, also none
  pub data Clauses : Type 0 where
    no_clauses : Clauses
    -- a positive clause before others
    plus : Formula → Clauses → Clauses
    -- a negative clause before others
    minus : Formula → Clauses → Clauses

abbrev mutual
  -- the formula is true at the state
  pub Satisfies : System → ℕ → Formula → Type 0
  Satisfies system s (see label formula) = (t : ℕ) × HasStep system s label t × Satisfies system t formula
  Satisfies system s (all clauses) = SatisfiesEach system s clauses

  -- the formula of each positive clause is true at the state, and that of each negative clause is not
  pub SatisfiesEach : System → ℕ → Clauses → Type 0
  SatisfiesEach system s no_clauses = Unit {0}
  SatisfiesEach system s (plus formula clauses) = Satisfies system s formula × SatisfiesEach system s clauses
  SatisfiesEach system s (minus formula clauses) = ¬ Satisfies system s formula × SatisfiesEach system s clauses
