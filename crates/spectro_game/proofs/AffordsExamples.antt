-- What is afforded over small listings, by an observation, by a split and by one clause; and what is not.
use Rattle.std.proofs.Common.{◌≡◌, ◌≢◌, ◌≤◌, ◌⊎◌, ℕ, inl, inr, List, [], ◌∷◌, Contains, refl, sym, ap, subst, arith}
use Rattle.spectro_spec.specs.System.{Label, Step, HasStep, post}
use Rattle.spectro_spec.specs.Weighing.{weight_of}
use Rattle.spectro_spec.specs.Price.{Price}
use Rattle.spectro_game.specs.Sup.{zero_price}
use Rattle.spectro_game.specs.Divisions.{IsDivided, nothing, to_left, to_right}
use Rattle.spectro_game.specs.BackwardStep.{Listing, AttackerWins, ListsAtMost, AffordsClause, AffordsSplit, Affords, CoversItsStep}
use Rattle.spectro_spec.proofs.Members.{Contains-first, Contains-cases, Contains-none}
use Rattle.spectro_spec.proofs.Samples.{a, step, two_stopped, one_step, enabled, six, seven}
use Rattle.spectro_spec.proofs.TruthExamples.{Distinguishes-enabled}
use Rattle.spectro_game.proofs.BackwardStepExamples.{dear}

-- the attacker wins with just what the formula costs
AttackerWins-one_step : AttackerWins [] one_step 0 (1 ∷ []) (six 1 1 0 0 0 0)
AttackerWins-one_step = (enabled a, Distinguishes-enabled, omega arith)

-- nothing is listed
abbrev none : Listing
none p qs e = ⊥

Affords-no_set : Affords [] two_stopped none 0 [] (six 0 1 0 0 0 0)
Affords-no_set = inr (zero_price, ([], [], nothing, (λ n. absurd (n refl)), λ q h. absurd (Contains-none q h)), omega arith)

-- also at an empty set a split has its price
not_Affords-free : ¬ Affords [] two_stopped none 0 [] zero_price
not_Affords-free (inl (label, t, h, (f, listed, l))) = listed
not_Affords-free (inr (e, split, l)) = omega arith

not_AffordsClause-none : (e : Price) → ¬ AffordsClause none 0 1 e
not_AffordsClause-none e (inl (f, listed, l)) = listed
not_AffordsClause-none e (inr (apart, (f, listed, l))) = listed

-- a negative clause is for another state
abbrev itself : Listing
itself p qs e = (p ≡ 1) × (qs ≡ 1 ∷ []) × (e ≡ six 2 1 0 0 0 0)

AffordsClause-itself : AffordsClause itself 1 1 (six 2 1 2 2 0 0)
AffordsClause-itself = inl (six 2 1 0 0 0 0, (refl, refl, refl), omega arith)

not_AffordsClause-itself : ¬ AffordsClause itself 1 1 (six 2 1 0 0 2 1)
not_AffordsClause-itself (inl (f, (p_is, qs_is, f_is), l)) = let h : 2 ≤ f.observations = rw f_is (omega arith) in omega arith
not_AffordsClause-itself (inr (apart, (f, listed, l))) = apart refl

-- one price, listed for one state and set
abbrev only : ℕ → List ℕ → Price → Listing
only s ts f p qs e = (p ≡ s) × (qs ≡ ts) × (e ≡ f)

-- the negative clause is no deepest one, so part 3 counts part 4
AffordsClause-negative : AffordsClause (only 1 (0 ∷ []) (six 2 1 0 1 0 0)) 0 1 (six 2 1 1 1 2 1)
AffordsClause-negative = inr ((λ e. omega arith), (six 2 1 0 1 0 0, (refl, refl, refl), omega arith))

not_AffordsClause-negative : ¬ AffordsClause (only 1 (0 ∷ []) (six 2 1 0 1 0 0)) 0 1 (six 2 1 0 1 2 1)
not_AffordsClause-negative (inl (f, (p_is, qs_is, f_is), l)) = omega arith
not_AffordsClause-negative (inr (apart, (f, (p_is, qs_is, f_is), l))) = let h : 1 ≤ f.other_positive = rw f_is (omega arith) in omega arith

-- after the step the set is left behind
abbrev behind : Listing
behind = only 1 [] (six 0 1 0 0 0 0)

only_step : (label : Label) (t : ℕ) → HasStep one_step 0 label t → a ≡ label
only_step label t h = elim (Contains-cases (step 0 a 1) [] (record { source = 0; label = label; target = t }) h) [
  | inl e ↦ ap (λ (x : Step). x.label) e
  | inr later ↦ absurd (Contains-none _ later)
]

Affords-dear : Affords dear one_step behind 0 (1 ∷ []) (seven 1 1 0 0 0 0 5)
unfolding post
Affords-dear = inl (a, 1, Contains-first (step 0 a 1) [], (six 0 1 0 0 0 0, (refl, refl, refl), omega arith))

no_clause : (e : Price) → ¬ AffordsClause behind 0 1 e
no_clause e (inl (f, (p_is, qs_is, f_is), l)) = omega arith
no_clause e (inr (apart, (f, (p_is, qs_is, f_is), l))) = cc

no_split : (left right : List ℕ) (e : Price) → IsDivided (1 ∷ []) left right → (left ≢ [] → (f : Price) × behind 0 left f)
    → ((q : ℕ) → Contains right q → AffordsClause behind 0 q e) → ⊥
no_split left right e (to_left {left = others} d) clause clauses = let h = clause (λ z. cc) in let no = h.1.0 in omega arith
no_split left right e (to_right {right = others} d) clause clauses = no_clause e (clauses 1 (Contains-first 1 others))

-- with one less of weighted depth it is not
not_Affords-dear : ¬ Affords dear one_step behind 0 (1 ∷ []) (seven 9 9 9 9 9 9 4)
not_Affords-dear (inl (label, t, h, (f, listed, l))) = let heavy : weight_of dear label ≡ 5 = subst (λ x. weight_of dear x ≡ 5)
    (only_step label t h) refl in omega arith
not_Affords-dear (inr (b, (left, right, divided, clause, clauses), l)) =
    no_split left right b divided (λ n. let h = clause n in (h.0, h.1)) clauses

-- a listed positive clause refutes 1, a negative one 2
abbrev each_way : Listing
each_way p qs e = only 0 (1 ∷ []) (six 1 1 0 0 0 0) p qs e ⊎ only 2 (0 ∷ []) (six 3 1 0 0 0 0) p qs e

AffordsSplit-each_way : AffordsSplit each_way 0 (1 ∷ 2 ∷ []) (six 3 1 1 0 3 1)
AffordsSplit-each_way = (
  1 ∷ [],
  2 ∷ [],
  to_left (to_right nothing),
  (λ n. (six 1 1 0 0 0 0, inl (refl, refl, refl), omega arith)),
  λ q member. elim (Contains-cases 2 [] q member) [
    | inl e ↦ inr ((λ z. omega arith), (six 3 1 0 0 0 0, inr (sym e, refl, refl), omega arith))
    | inr later ↦ absurd (Contains-none q later)
  ],
)

-- a listing of everything covers its own backward step; one of nothing doesn't, since at an empty set a split is afforded
CoversItsStep-all : CoversItsStep [] one_step (λ p qs. Unit {0}) (λ p qs e. Unit {0})
CoversItsStep-all p qs e known afforded = (zero_price, tt, omega arith)

not_CoversItsStep-none : ¬ CoversItsStep [] two_stopped (λ p qs. Unit {0}) none
not_CoversItsStep-none covers = let listed : ListsAtMost none 0 [] (six 0 1 0 0 0 0) = covers 0 [] (six 0 1 0 0 0 0) tt Affords-no_set in listed.1

-- at pairs that are not known nothing is asked
CoversItsStep-nowhere : CoversItsStep [] two_stopped (λ p qs. ⊥) none
CoversItsStep-nowhere p qs e known afforded = absurd known
