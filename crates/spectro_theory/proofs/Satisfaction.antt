-- Truth is decided, and where a conjunction is not true one of its clauses fails.
use Rattle.std.proofs.Common.{ℕ, ◌≡◌, ◌⊎◌, inl, inr, refl, subst, Contains}
use Rattle.std.proofs.lemmas.Bool.{cases_eq, cases_Bool, true≢false}
use Rattle.std.proofs.lemmas.Slice.Eq.{bytes_eq-Decides}
use Rattle.std.specs.Str.{bytes_eq}
use Rattle.spectro_spec.specs.System.{Label, Step, System, HasStep}
use Rattle.spectro_spec.specs.Formula.{Formula, Clauses, see, all, no_clauses, plus, minus, Satisfies, SatisfiesEach}
use Rattle.spectro_spec.proofs.Membership.{decide_member}
use Rattle.spectro_theory.specs.Splits.{HasPlus, HasMinus}

decide_both : {A B : Type 0} → Dec A → Dec B → Dec (A × B)
decide_both (yes a) (yes b) = yes (a, b)
decide_both (yes a) (no not_b) = no (λ h. not_b h.1)
decide_both (no not_a) decided = no (λ h. not_a h.0)

decide_not : {A : Type 0} → Dec A → Dec (¬ A)
decide_not (yes a) = no (λ not_a. not_a a)
decide_not (no not_a) = yes not_a

pub decide_number : (n m : ℕ) → Dec (n ≡ m)
decide_number n m = elim (cases_eq n m) [ inl e ↦ yes e | inr apart ↦ no apart ]

decide_label : (label other : Label) → Dec (label ≡ other)
decide_label label other = elim (cases_Bool (bytes_eq label other)) [
  | inl same ↦ yes ((bytes_eq-Decides label other).0 same)
  | inr apart ↦ no (λ e. let same = (bytes_eq-Decides label other).1 e in true≢false (cc))
]

module _ (system : System) where
  decide_see : (s : ℕ) (label : Label) (P : ℕ → Type 0) → ((t : ℕ) → Dec (P t)) → Dec ((t : ℕ) × HasStep system s label t × P t)
  decide_see s label P decided = elim (decide_member (λ (step : Step). (step.source ≡ s) × ((step.label ≡ label) × P step.target))
      (λ step. decide_both (decide_number step.source s) (decide_both (decide_label step.label label) (decided step.target))) system.steps) [
        | yes (step, member, h) ↦ yes
            (step.target, subst (λ x. Contains system.steps x) (λ i. record { source = h.0 i; label = h.1.0 i; target = step.target }) member, h.1.1)
        | no none ↦ no (λ h. none (record { source = s; label = label; target = h.0 }, h.1, (refl, (refl, h.2))))
      ]

  mutual
    pub decide : (s : ℕ) (formula : Formula) → Dec (Satisfies system s formula)
    decide s (see label formula) = decide_see s label (λ t. Satisfies system t formula) (λ t. decide t formula)
    decide s (all clauses) = decide_each s clauses

    decide_each : (s : ℕ) (clauses : Clauses) → Dec (SatisfiesEach system s clauses)
    decide_each s no_clauses = yes tt
    decide_each s (plus formula clauses) = decide_both (decide s formula) (decide_each s clauses)
    decide_each s (minus formula clauses) = decide_both (decide_not (decide s formula)) (decide_each s clauses)

  -- one of the clauses is not true at the state
  abbrev pub Fails : ℕ → Clauses → Type 0
  Fails s clauses =
      ((formula : Formula) × HasPlus clauses formula × ¬ Satisfies system s formula)
      ⊎ ((formula : Formula) × HasMinus clauses formula × Satisfies system s formula)

  Fails-plus : (s : ℕ) (other : Formula) (clauses : Clauses) → Fails s clauses → Fails s (plus other clauses)
  Fails-plus s other _ (inl (formula, h, untrue)) = inl (formula, inr h, untrue)
  Fails-plus s other _ (inr h) = inr h

  Fails-minus : (s : ℕ) (other : Formula) (clauses : Clauses) → Fails s clauses → Fails s (minus other clauses)
  Fails-minus s other _ (inl h) = inl h
  Fails-minus s other _ (inr (formula, h, holds)) = inr (formula, inr h, holds)

  pub failing : (s : ℕ) (clauses : Clauses) → ¬ SatisfiesEach system s clauses → Fails s clauses
  failing s no_clauses untrue = absurd (untrue tt)
  failing s (plus formula clauses) untrue = elim (decide s formula) [
    | yes holds ↦ Fails-plus s formula clauses (failing s clauses (λ rest. untrue (holds, rest)))
    | no fails ↦ inl (formula, inl refl, fails)
  ]
  failing s (minus formula clauses) untrue = elim (decide s formula) [
    | yes holds ↦ inr (formula, inl refl, holds)
    | no fails ↦ Fails-minus s formula clauses (failing s clauses (λ rest. untrue (fails, rest)))
  ]

  -- where a conjunction is true each positive clause is, and no negative one
  pub plus-true : (s : ℕ) (clauses : Clauses) (formula : Formula) → SatisfiesEach system s clauses → HasPlus clauses formula
      → Satisfies system s formula
  plus-true s no_clauses formula h has = absurd has
  plus-true s (plus other _) formula h (inl e) = subst (λ x. Satisfies system s x) e h.0
  plus-true s (plus other clauses) formula h (inr has) = plus-true s clauses formula h.1 has
  plus-true s (minus other clauses) formula h has = plus-true s clauses formula h.1 has

  pub minus-false : (s : ℕ) (clauses : Clauses) (formula : Formula) → SatisfiesEach system s clauses → HasMinus clauses formula
      → ¬ Satisfies system s formula
  minus-false s no_clauses formula h has = absurd has
  minus-false s (plus other clauses) formula h has = minus-false s clauses formula h.1 has
  minus-false s (minus other _) formula h (inl e) = subst (λ x. ¬ Satisfies system s x) e h.0
  minus-false s (minus other clauses) formula h (inr has) = minus-false s clauses formula h.1 has
