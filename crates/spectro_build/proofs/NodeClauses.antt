-- The clauses of a node, with the formulas of the nodes that they name.
use Rattle.std.proofs.Common.{◌≡◌, ◌≢◌, ◌⊎◌, inl, inr, ℕ, ◌≤◌, Bool, true, false, List, [], ◌∷◌, cond, refl, sym, ap, subst, arith, Contains, ◌∙◌}
use Rattle.std.proofs.lemmas.Bool.{cases_eq, true≢false}
use Rattle.spectro_spec.specs.Formula.{Formula, plus, minus}
use Rattle.spectro_spec.specs.Weighing.{Weighing}
use Rattle.spectro_spec.specs.Pricing.{price, greatest}
use Rattle.spectro_spec.proofs.Members.{Contains-first, Contains-later, Contains-cases, Contains-none}
use Rattle.spectro_hml.specs.declared.node.Clause.{Clause}
use Rattle.spectro_hml.specs.Clauses.{IsBeforeClause, ClausesRise}
use Rattle.spectro_hml.specs.Sheets.{formula_at, clauses_of}
use Rattle.spectro_theory.specs.Splits.{HasPlus, HasMinus, IsAboveOnceAtMost}
use Rattle.spectro_theory.proofs.Conjunctions.{depths}

-- ---- rising clauses
pub before-trans : (one two three : Clause) → IsBeforeClause one two → IsBeforeClause two three → IsBeforeClause one three
before-trans one two three (inl h) (inl k) = inl (omega arith)
before-trans one two three (inl h) (inr k) = let same : two.node ≡ three.node = k.0 in inl (omega arith)
before-trans one two three (inr h) (inl k) = let same : one.node ≡ two.node = h.0 in inl (omega arith)
before-trans one two three (inr h) (inr k) = absurd (true≢false (sym k.1 ∙ h.2))

pub before-irrefl : (one : Clause) → ¬ IsBeforeClause one one
before-irrefl one (inl h) = omega arith
before-irrefl one (inr h) = true≢false (sym h.1 ∙ h.2)

pub rise-later : (clause : Clause) (clauses : List Clause) → ClausesRise (clause ∷ clauses) → ClausesRise clauses
rise-later clause [] rise = tt
rise-later clause (next ∷ clauses) rise = rise.1

-- the first comes before each later one
pub rise-first : (clause : Clause) (clauses : List Clause) → ClausesRise (clause ∷ clauses) → (other : Clause) → Contains clauses other
    → IsBeforeClause clause other
rise-first clause [] rise other member = absurd (Contains-none other member)
rise-first clause (next ∷ clauses) rise other member = elim (Contains-cases next clauses other member) [
  | inl same ↦ subst (λ c. IsBeforeClause clause c) same rise.0
  | inr later ↦ before-trans clause next other rise.0 (rise-first next clauses rise.1 other later)
]

-- ---- which clauses there are
module _ (formulas : List Formula) where
  abbrev pub HasNode : List Clause → Bool → Formula → Type 0
  HasNode clauses positive formula = (clause : Clause) × Contains clauses clause × (clause.positive ≡ positive) × (formula_at formulas clause.node ≡ formula)

  later_node : (clause : Clause) (clauses : List Clause) (positive : Bool) (formula : Formula) → HasNode clauses positive formula
      → HasNode (clause ∷ clauses) positive formula
  later_node clause clauses positive formula (other, member, sign, same) = (other, Contains-later clause clauses other member, sign, same)

  pub plus-node : (clauses : List Clause) (formula : Formula) → HasPlus (clauses_of formulas clauses) formula → HasNode clauses true formula
  plus-node [] formula has = absurd has
  plus-node (clause ∷ clauses) formula has = go clause.positive refl (plus-node clauses formula) has
    where
      go : (positive : Bool) → clause.positive ≡ positive → (HasPlus (clauses_of formulas clauses) formula → HasNode clauses true formula)
          → HasPlus (cond positive (plus (formula_at formulas clause.node) (clauses_of formulas clauses))
          (minus (formula_at formulas clause.node) (clauses_of formulas clauses))) formula
          → HasNode (clause ∷ clauses) true formula
      go true sign rest (inl same) = (clause, Contains-first clause clauses, sign, same)
      go true sign rest (inr later) = later_node clause clauses true formula (rest later)
      go false sign rest later = later_node clause clauses true formula (rest later)

  pub minus-node : (clauses : List Clause) (formula : Formula) → HasMinus (clauses_of formulas clauses) formula → HasNode clauses false formula
  minus-node [] formula has = absurd has
  minus-node (clause ∷ clauses) formula has = go clause.positive refl (minus-node clauses formula) has
    where
      go : (positive : Bool) → clause.positive ≡ positive → (HasMinus (clauses_of formulas clauses) formula → HasNode clauses false formula)
          → HasMinus (cond positive (plus (formula_at formulas clause.node) (clauses_of formulas clauses))
          (minus (formula_at formulas clause.node) (clauses_of formulas clauses))) formula
          → HasNode (clause ∷ clauses) false formula
      go false sign rest (inl same) = (clause, Contains-first clause clauses, sign, same)
      go false sign rest (inr later) = later_node clause clauses false formula (rest later)
      go true sign rest later = later_node clause clauses false formula (rest later)

  pub node-plus : (clauses : List Clause) (clause : Clause) → Contains clauses clause → clause.positive ≡ true
      → HasPlus (clauses_of formulas clauses) (formula_at formulas clause.node)
  node-plus [] clause member sign = absurd (Contains-none clause member)
  node-plus (other ∷ clauses) clause member sign =
      go other.positive (Contains-cases other clauses clause member) refl (λ later. node-plus clauses clause later sign)
    where
      go : (positive : Bool) → (other ≡ clause) ⊎ Contains clauses clause → other.positive ≡ positive
          → (Contains clauses clause → HasPlus (clauses_of formulas clauses) (formula_at formulas clause.node))
          → HasPlus (cond positive (plus (formula_at formulas other.node) (clauses_of formulas clauses))
          (minus (formula_at formulas other.node) (clauses_of formulas clauses))) (formula_at formulas clause.node)
      go true (inl same) is rest = inl (ap (λ (c : Clause). formula_at formulas c.node) same)
      go true (inr later) is rest = inr (rest later)
      go false (inl same) is rest = absurd (true≢false (sym sign ∙ sym (ap (λ (c : Clause). c.positive) same) ∙ is))
      go false (inr later) is rest = rest later

  pub node-minus : (clauses : List Clause) (clause : Clause) → Contains clauses clause → clause.positive ≡ false
      → HasMinus (clauses_of formulas clauses) (formula_at formulas clause.node)
  node-minus [] clause member sign = absurd (Contains-none clause member)
  node-minus (other ∷ clauses) clause member sign =
      go other.positive (Contains-cases other clauses clause member) refl (λ later. node-minus clauses clause later sign)
    where
      go : (positive : Bool) → (other ≡ clause) ⊎ Contains clauses clause → other.positive ≡ positive
          → (Contains clauses clause → HasMinus (clauses_of formulas clauses) (formula_at formulas clause.node))
          → HasMinus (cond positive (plus (formula_at formulas other.node) (clauses_of formulas clauses))
          (minus (formula_at formulas other.node) (clauses_of formulas clauses))) (formula_at formulas clause.node)
      go false (inl same) is rest = inl (ap (λ (c : Clause). formula_at formulas c.node) same)
      go false (inr later) is rest = inr (rest later)
      go true (inl same) is rest = absurd (true≢false (sym is ∙ ap (λ (c : Clause). c.positive) same ∙ sign))
      go true (inr later) is rest = rest later

  -- ---- how deep the positive clauses observe
  module _ (weighing : Weighing) (n : ℕ) where
    abbrev depth : Clause → ℕ
    depth clause = (price weighing (formula_at formulas clause.node)).observations

    -- none is deeper than n
    all-low : (clauses : List Clause) → ((clause : Clause) → Contains clauses clause → clause.positive ≡ true → depth clause ≤ n)
        → greatest (depths weighing (clauses_of formulas clauses)) ≤ n
    all-low [] low = omega arith
    all-low (clause ∷ clauses) low = go clause.positive refl (all-low clauses (λ other member. low other (Contains-later clause clauses other member)))
      where
        go : (positive : Bool) → clause.positive ≡ positive → greatest (depths weighing (clauses_of formulas clauses)) ≤ n
            → greatest (depths weighing (cond positive (plus (formula_at formulas clause.node) (clauses_of formulas clauses))
            (minus (formula_at formulas clause.node) (clauses_of formulas clauses)))) ≤ n
        go true sign rest = let here = low clause (Contains-first clause clauses) sign in omega arith
        go false sign rest = rest

    -- of rising clauses, where only the positive one of one node may be deeper
    pub one-above : (only : ℕ) (clauses : List Clause) → ClausesRise clauses
        → ((clause : Clause) → Contains clauses clause → clause.positive ≡ true → clause.node ≢ only → depth clause ≤ n)
        → IsAboveOnceAtMost n (depths weighing (clauses_of formulas clauses))
    one-above only [] rise low = tt
    one-above only (clause ∷ clauses) rise low =
        go clause.positive refl (cases_eq clause.node only) (one-above only clauses (rise-later clause clauses rise)
        (λ other member. low other (Contains-later clause clauses other member)))
      where
        later-apart : clause.positive ≡ true → clause.node ≡ only → (other : Clause) → Contains clauses other → other.positive ≡ true → other.node ≢ only
        later-apart sign here other member also there = elim (rise-first clause clauses rise other member) [
          | inl below ↦ omega arith
          | inr (same, first, second) ↦ true≢false (sym also ∙ second)
        ]

        go : (positive : Bool) → clause.positive ≡ positive → (clause.node ≡ only) ⊎ (clause.node ≢ only)
            → IsAboveOnceAtMost n (depths weighing (clauses_of formulas clauses))
            → IsAboveOnceAtMost n (depths weighing (cond positive (plus (formula_at formulas clause.node) (clauses_of formulas clauses))
            (minus (formula_at formulas clause.node) (clauses_of formulas clauses))))
        go true sign (inl here) rest =
            inr (all-low clauses (λ other member also. low other (Contains-later clause clauses other member) also (later-apart sign here other member also)))
        go true sign (inr apart) rest = inl (low clause (Contains-first clause clauses) sign apart, rest)
        go false sign cases rest = rest
