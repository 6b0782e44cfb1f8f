-- Where small formulas are true, and what they distinguish.
use Rattle.std.proofs.Common.{ℕ, [], ◌∷◌, refl, arith}
use Rattle.spectro_spec.specs.System.{System}
use Rattle.spectro_spec.specs.Formula.{Formula, see, all, no_clauses, plus, minus, Satisfies}
use Rattle.spectro_spec.specs.Notion.{Distinguishes}
use Rattle.spectro_spec.proofs.Members.{any_member, only_member, Contains-none, Contains-first, targets}
use Rattle.spectro_spec.proofs.Samples.{a, b, c, one_step, late_and_early, true_everywhere, enabled, disabled, then_both, then_both_by_negations, then_not}

satisfied-enabled : Satisfies one_step 0 (enabled a)
satisfied-enabled = (1, (0, omega arith, refl), tt)

pub refuted-enabled_after : ¬ Satisfies one_step 1 (enabled a)
refuted-enabled_after (t, h, f) = Contains-none t (targets one_step.steps 1 a t h)

-- no step has the label
refuted-enabled_other_label : ¬ Satisfies one_step 0 (enabled b)
refuted-enabled_other_label (t, h, f) = Contains-none t (targets one_step.steps 0 b t h)

refuted-two_steps : ¬ Satisfies one_step 0 (see a (enabled a))
refuted-two_steps (t, h, f) = only_member (λ s. ¬ Satisfies one_step s (enabled a)) 1 t refuted-enabled_after (targets one_step.steps 0 a t h) f

pub satisfied-disabled : Satisfies one_step 1 (disabled a)
satisfied-disabled = (refuted-enabled_after, tt)

refuted-disabled : ¬ Satisfies one_step 0 (disabled a)
refuted-disabled (n, f) = n satisfied-enabled

-- the number is no state of the system
satisfied-true_everywhere : Satisfies one_step 9 true_everywhere
satisfied-true_everywhere = tt

-- each clause counts, also the last
refuted-negative_clause_last : ¬ Satisfies one_step 0 (all (plus (enabled a) (minus (enabled a) no_clauses)))
refuted-negative_clause_last (p, (n, f)) = n p

refuted-positive_clause_last : ¬ Satisfies one_step 1 (all (minus (enabled a) (plus (enabled a) no_clauses)))
refuted-positive_clause_last (n, (p, f)) = n p

satisfied-both_clauses : Satisfies one_step 0 (all (plus (enabled a) (minus (enabled b) no_clauses)))
satisfied-both_clauses = (satisfied-enabled, (refuted-enabled_other_label, tt))

-- after the late choice both can follow
satisfied-then_both : Satisfies late_and_early 0 then_both
satisfied-then_both = (1, (0, omega arith, refl), ((2, (1, omega arith, refl), tt), ((2, (2, omega arith, refl), tt), tt)))

-- after the early choice one of them can't
pub no_b_at_5 : ¬ Satisfies late_and_early 5 (enabled b)
no_b_at_5 (t, h, f) = Contains-none t (targets late_and_early.steps 5 b t h)

pub no_c_at_4 : ¬ Satisfies late_and_early 4 (enabled c)
no_c_at_4 (t, h, f) = Contains-none t (targets late_and_early.steps 4 c t h)

refuted-then_both : ¬ Satisfies late_and_early 3 then_both
refuted-then_both (t, h, f) =
    any_member (λ s. ¬ Satisfies late_and_early s (all (plus (enabled b) (plus (enabled c) no_clauses)))) (4 ∷ 5 ∷ []) t
    ((λ g. no_c_at_4 g.1.0), ((λ g. no_b_at_5 g.0), tt)) (targets late_and_early.steps 3 a t h) f

satisfied-then_both_by_negations : Satisfies late_and_early 0 then_both_by_negations
satisfied-then_both_by_negations = (1, (0, omega arith, refl), ((λ g. g.0 (2, (1, omega arith, refl), tt)), ((λ g. g.0 (2, (2, omega arith, refl), tt)), tt)))

refuted-then_both_by_negations : ¬ Satisfies late_and_early 3 then_both_by_negations
refuted-then_both_by_negations (t, h, f) =
    any_member (λ s. ¬ Satisfies late_and_early s (all (minus (disabled b) (minus (disabled c) no_clauses)))) (4 ∷ 5 ∷ []) t
    ((λ g. g.1.0 (no_c_at_4, tt)), ((λ g. g.0 (no_b_at_5, tt)), tt)) (targets late_and_early.steps 3 a t h) f

satisfied-then_not : Satisfies late_and_early 3 (then_not c)
satisfied-then_not = (4, (3, omega arith, refl), (no_c_at_4, tt))

refuted-then_not : ¬ Satisfies late_and_early 0 (then_not c)
refuted-then_not (t, h, f) =
    only_member (λ s. ¬ Satisfies late_and_early s (disabled c)) 1 t (λ g. g.0 (2, (2, omega arith, refl), tt)) (targets late_and_early.steps 0 a t h) f

pub Distinguishes-enabled : Distinguishes one_step 0 (1 ∷ []) (enabled a)
Distinguishes-enabled = record {
  satisfied = satisfied-enabled;
  refuted = λ q member. only_member (λ s. ¬ Satisfies one_step s (enabled a)) 1 q refuted-enabled_after member;
}

pub Distinguishes-disabled : Distinguishes one_step 1 (0 ∷ []) (disabled a)
Distinguishes-disabled = record {
  satisfied = satisfied-disabled;
  refuted = λ q member. only_member (λ s. ¬ Satisfies one_step s (disabled a)) 0 q refuted-disabled member;
}

-- true at the first and false at the others, not the other way
not_Distinguishes-other_way : ¬ Distinguishes one_step 1 (0 ∷ []) (enabled a)
not_Distinguishes-other_way d = refuted-enabled_after d.satisfied

not_Distinguishes-itself : (system : System) (s : ℕ) (formula : Formula) → ¬ Distinguishes system s (s ∷ []) formula
not_Distinguishes-itself system s formula d = d.refuted s (Contains-first s []) d.satisfied

-- false at one of two states is not enough
not_Distinguishes-one_of_two : ¬ Distinguishes one_step 0 (1 ∷ 0 ∷ []) (enabled a)
not_Distinguishes-one_of_two d = d.refuted 0 (1, omega arith, refl) satisfied-enabled

-- from no states at all, truth at the first is all
Distinguishes-from_none : Distinguishes one_step 0 [] true_everywhere
Distinguishes-from_none = record { satisfied = tt; refuted = λ q member. absurd (Contains-none q member) }

pub Distinguishes-then_both : Distinguishes late_and_early 0 (3 ∷ []) then_both
Distinguishes-then_both = record {
  satisfied = satisfied-then_both;
  refuted = λ q member. only_member (λ s. ¬ Satisfies late_and_early s then_both) 3 q refuted-then_both member;
}

Distinguishes-then_both_by_negations : Distinguishes late_and_early 0 (3 ∷ []) then_both_by_negations
Distinguishes-then_both_by_negations = record {
  satisfied = satisfied-then_both_by_negations;
  refuted = λ q member. only_member (λ s. ¬ Satisfies late_and_early s then_both_by_negations) 3 q refuted-then_both_by_negations member;
}

pub Distinguishes-then_not : Distinguishes late_and_early 3 (0 ∷ []) (then_not c)
Distinguishes-then_not = record {
  satisfied = satisfied-then_not;
  refuted = λ q member. only_member (λ s. ¬ Satisfies late_and_early s (then_not c)) 0 q refuted-then_not member;
}
